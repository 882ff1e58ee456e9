use Rattle.std.proofs.lemmas.Bool.{true≢false}
use Rattle.std.proofs.Common.{◌≡◌, ◌==◌, ◌<◌, ◌≤◌, ◌∙◌, true, get_or, length, sym, subst, inl, inr}
use Rattle.std.proofs.lemmas.List.{take_all}
use Rattle.draid_machine.specs.declared.names.ArmName.TheVariants.{Leaf}
use Rattle.draid_machine.specs.Arms.{lies_on}
use Rattle.draid_machine.specs.Names.{has_name}
use Rattle.draid_machine.proofs.Small.{absurd_test}
use Rattle.draid_world.specs.World.{core_of, site_layout}
use Rattle.draid_passes.proofs.Lists.{name_here, name_next}
use Rattle.draid_passes.proofs.ends.any_lies_on.Goals as goal

pub returns-then-lies_on-clause-yes : goal.returns-then-lies_on-clause-yes
returns-then-lies_on-clause-yes c = λ e.
    (get_or c.args.names.now c.loop-name.name-index (Leaf 0), name_here c.args.names.now c.loop-name.name-index (Leaf 0) c.loop-name-test.true, sym c.lies_on.ensures ∙ c.if-lies_on.true)

pub loop-name-preserved : goal.loop-name-preserved
loop-name-preserved c = λ arm has lies.
    let less : c.loop-name.name-index < length c.args.names.now = c.loop-name-test.true in
    elim (name_next c.args.names.now c.loop-name.name-index (Leaf 0) arm less has) [
      | inl old ↦ c.loop-name.invariant arm old lies
      | inr new ↦ absurd_test (lies_on (site_layout c.args.site.now) (core_of c.args.tables.now) (λ m. m == c.args.leaf) (get_or c.args.names.now c.loop-name.name-index (Leaf 0)))
          (subst (λ n. lies_on (site_layout c.args.site.now) (core_of c.args.tables.now) (λ m. m == c.args.leaf) n ≡ true) (sym new) lies)
          (sym c.lies_on.ensures ∙ c.if-lies_on.false)
    ]

pub returns-clause-no : goal.returns-clause-no
returns-clause-no c = λ e arm has lies.
    let past : length c.args.names.now ≤ c.loop-name.name-index = c.loop-name-test.false in
    c.loop-name.invariant arm (subst (λ ns. has_name ns arm ≡ true) (sym (take_all c.loop-name.name-index c.args.names.now past)) has) lies

pub loop-name-init : goal.loop-name-init
loop-name-init c = λ arm has lies. absurd (true≢false (sym has))

pub returns-then-lies_on-clause-no : goal.returns-then-lies_on-clause-no
returns-then-lies_on-clause-no c = λ e. absurd (true≢false e)

pub returns-clause-yes : goal.returns-clause-yes
returns-clause-yes c = λ e. absurd (true≢false (sym e))

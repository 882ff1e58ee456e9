use Rattle.std.proofs.lemmas.Bool.{true≢false}
use Rattle.std.proofs.Common.{◌≡◌, ◌<◌, Some, get_or, length, rules, sym, subst, inl, inr}
use Rattle.draid_machine.specs.declared.names.ArmName.TheVariants.{Leaf}
use Rattle.draid_machine.specs.Arms.{leaf_at}
use Rattle.draid_passes.proofs.Lists.{name_here, name_next}
use Rattle.draid_world.specs.World.{core_of, site_layout}
use Rattle.draid_passes.proofs.landings.any_answers.Goals as goal

pub returns-then-lies_at-clause-yes : goal.returns-then-lies_at-clause-yes
returns-then-lies_at-clause-yes c = λ e. record {
  arm = get_or c.args.names.now c.loop-name.name-index (Leaf 0);
  listed = name_here c.args.names.now c.loop-name.name-index (Leaf 0) c.loop-name-test.true;
  lies = c.lies_at.ensures.yes c.if-lies_at.true;
  answers = search rules;
}

pub loop-name-preserved : goal.loop-name-preserved
loop-name-preserved c = λ arm has lies.
    let less : c.loop-name.name-index < length c.args.names.now = c.loop-name-test.true in
    elim (name_next c.args.names.now c.loop-name.name-index (Leaf 0) arm less has) [
      | inl old ↦ c.loop-name.invariant arm old lies
      | inr new ↦ c.lies_at.ensures.no c.if-lies_at.false (subst (λ n. leaf_at (site_layout c.args.site.now) (core_of c.args.tables.now).order n c.args.stripe ≡ Some c.args.leaf) (sym new) lies)
    ]

pub loop-name-init : goal.loop-name-init
loop-name-init c = λ arm has lies. absurd (true≢false (sym has))

pub returns-then-lies_at-clause-no : goal.returns-then-lies_at-clause-no
returns-then-lies_at-clause-no c = λ e. absurd (true≢false e)

pub returns-clause-yes : goal.returns-clause-yes
returns-clause-yes c = λ e. absurd (true≢false (sym e))

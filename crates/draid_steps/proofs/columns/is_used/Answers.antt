use Rattle.std.proofs.Common.{◌∙◌, Bool, get_or, ap, refl, sym}
use Rattle.std.specs.List.{list_any}
use Rattle.std.proofs.lemmas.List.{drop_all}
use Rattle.draid_machine.specs.Arms as arms
use Rattle.draid_machine.specs.declared.names.ArmName.{ArmName}
use Rattle.draid_machine.specs.declared.names.ArmName.TheVariants.{Leaf}
use Rattle.draid_world.specs.World.{core_of, names_at, site_layout}
use Rattle.draid_steps.proofs.Lists.{found_any, next_any}
use Rattle.draid_steps.proofs.columns.is_used.Goals as goal

pub returns-then-is_at : goal.returns-then-is_at
returns-then-is_at c =
    let test : ArmName → Bool = λ n. arms.lies (site_layout c.args.site.now) (core_of c.args.tables.now).order n c.args.stripe c.args.leaf in
    sym (c.loop-name.invariant ∙ found_any test c.args.names.now c.loop-name.name-index (Leaf 0) c.loop-name-test.true
    (ap (λ vs. arms.lies (site_layout c.args.site.now) (names_at vs) (get_or c.args.names.now c.loop-name.name-index (Leaf 0)) c.args.stripe c.args.leaf) (sym c.deref.ensures.value) ∙ sym c.if-is_at.ensures))

pub loop-name-preserved : goal.loop-name-preserved
loop-name-preserved c =
    let test : ArmName → Bool = λ n. arms.lies (site_layout c.args.site.now) (core_of c.args.tables.now).order n c.args.stripe c.args.leaf in
    c.loop-name.invariant ∙ next_any test c.args.names.now c.loop-name.name-index (Leaf 0) c.loop-name-test.true
    (ap (λ vs. arms.lies (site_layout c.args.site.now) (names_at vs) (get_or c.args.names.now c.loop-name.name-index (Leaf 0)) c.args.stripe c.args.leaf) (sym c.deref.ensures.value) ∙ sym c.if-is_at.ensures)

pub returns : goal.returns
returns c =
    let test : ArmName → Bool = λ n. arms.lies (site_layout c.args.site.now) (core_of c.args.tables.now).order n c.args.stripe c.args.leaf in
    sym (c.loop-name.invariant ∙ ap (list_any test) (drop_all c.loop-name.name-index c.args.names.now c.loop-name-test.false))

pub loop-name-init : goal.loop-name-init
loop-name-init c = refl

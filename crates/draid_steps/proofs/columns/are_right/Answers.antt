use Rattle.std.proofs.Common.{◌∙◌, Bool, ap, refl, sym}
use Rattle.std.specs.List.{list_all}
use Rattle.std.proofs.lemmas.List.{drop_all}
use Rattle.draid_machine.specs.declared.names.ArmName.{ArmName}
use Rattle.draid_machine.specs.declared.names.ArmName.TheVariants.{Leaf}
use Rattle.draid_world.specs.World.{core_of, site_layout}
use Rattle.draid_steps.specs.Columns.{lands_right}
use Rattle.draid_steps.proofs.Lists.{next_all, stop_all}
use Rattle.draid_steps.proofs.columns.are_right.Goals as goal

pub returns-then-not-is_right : goal.returns-then-not-is_right
returns-then-not-is_right c =
    let test : ArmName → Bool = lands_right (site_layout c.args.site.now) (core_of c.args.tables.now) c.args.stripe c.args.landed.now c.args.failed.now in
    sym (c.loop-name.invariant ∙ stop_all test c.args.names.now c.loop-name.name-index (Leaf 0) c.loop-name-test.true (sym c.if-not-is_right.ensures))

pub loop-name-preserved : goal.loop-name-preserved
loop-name-preserved c =
    let test : ArmName → Bool = lands_right (site_layout c.args.site.now) (core_of c.args.tables.now) c.args.stripe c.args.landed.now c.args.failed.now in
    c.loop-name.invariant ∙ next_all test c.args.names.now c.loop-name.name-index (Leaf 0) c.loop-name-test.true (sym c.if-not-is_right.ensures)

pub returns : goal.returns
returns c =
    let test : ArmName → Bool = lands_right (site_layout c.args.site.now) (core_of c.args.tables.now) c.args.stripe c.args.landed.now c.args.failed.now in
    sym (c.loop-name.invariant ∙ ap (list_all test) (drop_all c.loop-name.name-index c.args.names.now c.loop-name-test.false))

pub loop-name-init : goal.loop-name-init
loop-name-init c = refl

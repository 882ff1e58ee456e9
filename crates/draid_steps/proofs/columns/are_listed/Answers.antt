use Rattle.std.proofs.Common.{◌∙◌, ap, refl, sym}
use Rattle.std.specs.List.{list_all}
use Rattle.std.proofs.lemmas.List.{drop_all}
use Rattle.draid_machine.specs.Names.{has_name}
use Rattle.draid_machine.specs.declared.names.ArmName.TheVariants.{Leaf}
use Rattle.draid_steps.proofs.Lists.{next_all, stop_all}
use Rattle.draid_steps.proofs.columns.are_listed.Goals as goal

pub loop-name-init : goal.loop-name-init
loop-name-init c = refl

pub returns-then-not-is_among : goal.returns-then-not-is_among
returns-then-not-is_among c =
    sym (c.loop-name.invariant ∙ stop_all (has_name c.args.names.now) c.args.landed.now c.loop-name.name-index (Leaf 0) c.loop-name-test.true (sym c.if-not-is_among.ensures))

pub loop-name-preserved : goal.loop-name-preserved
loop-name-preserved c =
    c.loop-name.invariant ∙ next_all (has_name c.args.names.now) c.args.landed.now c.loop-name.name-index (Leaf 0) c.loop-name-test.true (sym c.if-not-is_among.ensures)

pub returns : goal.returns
returns c = sym (c.loop-name.invariant ∙ ap (list_all (has_name c.args.names.now)) (drop_all c.loop-name.name-index c.args.landed.now c.loop-name-test.false))

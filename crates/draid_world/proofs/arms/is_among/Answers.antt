use Rattle.std.proofs.Common.{◌∙◌, refl, sym}
use Rattle.std.proofs.lemmas.List.{at_drop_all}
use Rattle.draid_machine.specs.Names.{has_name}
use Rattle.draid_machine.specs.declared.names.ArmName.TheVariants.{Leaf}
use Rattle.draid_world.proofs.Walks.{name_here, name_on}
use Rattle.draid_world.proofs.arms.is_among.Goals as goal

pub loop-found-init : goal.loop-found-init
loop-found-init c = refl

pub returns-then-is_same : goal.returns-then-is_same
returns-then-is_same c =
    sym (c.loop-found.invariant ∙ name_here c.args.names.now c.args.name c.loop-found.found-index (Leaf 0) c.loop-found-test.true (sym c.is_same.ensures ∙ c.if-is_same.true))

pub loop-found-preserved : goal.loop-found-preserved
loop-found-preserved c =
    c.loop-found.invariant ∙ name_on c.args.names.now c.args.name c.loop-found.found-index (Leaf 0) c.loop-found-test.true (sym c.is_same.ensures ∙ c.if-is_same.false)

pub returns : goal.returns
returns c = sym (c.loop-found.invariant ∙ at_drop_all (λ ns. has_name ns c.args.name) c.args.names.now c.loop-found.found-index c.loop-found-test.false)

use Rattle.std.proofs.Common.{◌∙◌, ℕ, Bool, ap, refl, sym}
use Rattle.std.specs.List.{list_all}
use Rattle.std.proofs.lemmas.List.{drop_all}
use Rattle.draid_machine.specs.Arms.{online}
use Rattle.draid_machine.specs.declared.names.ArmName.TheVariants.{Leaf}
use Rattle.draid_world.specs.World.{arm_in}
use Rattle.draid_steps.proofs.Lists.{next_all, stop_all}
use Rattle.draid_images.proofs.seals.are_online.Goals as goal

pub loop-leaf-init : goal.loop-leaf-init
loop-leaf-init c = refl

pub returns-then-not-is_online : goal.returns-then-not-is_online
returns-then-not-is_online c =
    let test : ℕ → Bool = λ leaf. online (arm_in c.args.tables.now.arms.entries (Leaf leaf)) in
    sym (c.loop-leaf.invariant ∙ stop_all test c.args.leaves.now c.loop-leaf.leaf-index 0 c.loop-leaf-test.true (sym c.if-not-is_online.ensures))

pub loop-leaf-preserved : goal.loop-leaf-preserved
loop-leaf-preserved c =
    let test : ℕ → Bool = λ leaf. online (arm_in c.args.tables.now.arms.entries (Leaf leaf)) in
    c.loop-leaf.invariant ∙ next_all test c.args.leaves.now c.loop-leaf.leaf-index 0 c.loop-leaf-test.true (sym c.if-not-is_online.ensures)

pub returns : goal.returns
returns c =
    let test : ℕ → Bool = λ leaf. online (arm_in c.args.tables.now.arms.entries (Leaf leaf)) in
    sym (c.loop-leaf.invariant ∙ ap (list_all test) (drop_all c.loop-leaf.leaf-index c.args.leaves.now c.loop-leaf-test.false))

use Rattle.std.proofs.Common.{◌≡◌, drop, Bool, ℕ}
use Rattle.std.specs.List.{list_all}
use Rattle.draid_machine.specs.Arms.{online}
use Rattle.draid_machine.specs.declared.names.ArmName.TheVariants.{Leaf}
use Rattle.draid_world.specs.World.{arm_in}
use Rattle.draid_images.proofs.seals.are_online.Given as goal

abbrev pub invariant-loop-leaf : goal.invariant-loop-leaf
invariant-loop-leaf l =
    let test : ℕ → Bool = λ leaf. online (arm_in l.tables.arms.entries (Leaf leaf)) in
    list_all test l.leaves ≡ list_all test (drop l.leaf-index l.leaves)

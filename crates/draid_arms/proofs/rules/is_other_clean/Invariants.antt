use Rattle.std.proofs.Common.{◌≡◌, ◌<◌, false, ℕ, get_or}
use Rattle.draid_machine.specs.Arms.{HasEmptyLog}
use Rattle.draid_machine.specs.Names.{name_eq}
use Rattle.draid_machine.specs.declared.names.ArmName.TheVariants.{Leaf}
use Rattle.draid_world.specs.World.{core_of}
use Rattle.draid_arms.proofs.rules.is_other_clean.Given as goal

abbrev pub invariant-loop-other : goal.invariant-loop-other
invariant-loop-other l = (i : ℕ) → i < l.other-index → name_eq l.name (get_or l.names i (Leaf 0)) ≡ false → HasEmptyLog (core_of l.tables) (get_or l.names i (Leaf 0)) → ⊥

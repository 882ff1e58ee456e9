use Rattle.std.proofs.Common.{◌≡◌, ◌<◌, false, ℕ}
use Rattle.draid_machine.specs.Names.{has_name}
use Rattle.draid_world.specs.World.{names_at}
use Rattle.draid_world.proofs.arms.slot_with.Given as goal

abbrev pub invariant-loop-slot : goal.invariant-loop-slot
invariant-loop-slot l = (c : ℕ) → c < l.slot → has_name (names_at l.order c) l.name ≡ false

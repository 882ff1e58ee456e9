use Rattle.std.proofs.Common.{◌≡◌, ◌<◌, ℕ, Some, true, false, slice_get}
use Rattle.draid_machine.specs.Names.{has_number}
use Rattle.draid_shard.specs.declared.loan.Spot.{Spot}
use Rattle.draid_heal.proofs.settle.are_fine.Given as goal

abbrev pub invariant-loop-i : goal.invariant-loop-i
invariant-loop-i l = (k : ℕ) (spot : Spot) → k < l.i → slice_get l.spots k ≡ Some spot → spot.clean ≡ true → has_number l.failed spot.leaf ≡ false

use Rattle.std.proofs.Common.{◌<◌, ℕ}
use Rattle.std.specs.Prelude.{slice_get}
use Rattle.draid_slots.specs.Table.{IsArmOf}
use Rattle.draid_slots.proofs.slot.place_of.Given as goal

abbrev pub invariant-loop-at : goal.invariant-loop-at
invariant-loop-at l = (k : ℕ) → k < l.at → ¬ (IsArmOf l.kind l.number (slice_get l.arms k))

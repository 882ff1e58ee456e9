use Rattle.std.proofs.Common.{◌≢◌, ◌<◌, ℕ}
use Rattle.std.specs.Prelude.{IfSome, IfNone}
use Rattle.draid_slots.specs.Faults.{IsLeastCount}
use Rattle.draid_slots.proofs.slot.least_count.Given as goal

abbrev pub invariant-loop-other : goal.invariant-loop-other
invariant-loop-other l = record {
  least : IfSome l.least (IsLeastCount l.logs l.at l.other);
  none : IfNone l.least ((other : ℕ) → other ≢ l.at → ¬ (other < l.other));
}

use Rattle.std.proofs.Common.{◌≡◌, ◌+◌, ◌≤◌, ℕ, Option, length, true}
use Rattle.std.specs.Prelude.{vec_capacity}
use Rattle.draid_rack.specs.Rack.{OnBothTold}
use Rattle.draid_shard.specs.Calls.{CountsFailed}
use Rattle.draid_mend.specs.Targets.{AllAnswer, FailsBelow, MendsBelow}
use Rattle.draid_mend.proofs.targets.mend_targets.Given as goal

abbrev pub invariant-loop-i : goal.invariant-loop-i
invariant-loop-i g l = let rack = g.R.Rack in record {
  shape : rack.shape l.rack ≡ rack.shape l.initial.rack;
  mends : OnBothTold (rack.told l.initial.rack) (rack.told l.rack) (MendsBelow l.slots l.rows l.targets l.i l.column l.sources l.failed.items);
  fails : FailsBelow l.slots l.rows l.targets l.i l.initial.failed.items l.failed.items;
  counts : (first : Option ℕ → ℕ) → CountsFailed l.initial.failed.items first (rack.faults l.initial.rack) → CountsFailed l.failed.items first (rack.faults l.rack);
  room : vec_capacity l.failed ≡ vec_capacity l.initial.failed;
  answered : l.answered ≡ true → AllAnswer l.slots l.rows l.targets l.i;
  few : length l.failed.items ≤ length l.initial.failed.items + l.i;
}

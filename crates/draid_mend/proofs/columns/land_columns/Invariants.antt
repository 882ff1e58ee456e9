use Rattle.std.proofs.Common.{◌≡◌, ◌+◌, ◌*◌, ◌≤◌, ℕ, Option, length, true}
use Rattle.std.specs.Prelude.{vec_capacity}
use Rattle.draid_rack.specs.Rack.{OnBothTold}
use Rattle.draid_shard.specs.Calls.{CountsFailed}
use Rattle.draid_shard.specs.States.{part_of}
use Rattle.draid_mend.specs.Stripes.{AnswerBelow, FailsColumns, LandsBelow}
use Rattle.draid_mend.proofs.columns.land_columns.Given as goal

abbrev pub invariant-loop-column : goal.invariant-loop-column
invariant-loop-column g l = let rack = g.R.Rack in record {
  whole : l.shard ≡ record l.initial.shard { rack = l.shard.rack };
  shape : rack.shape l.shard.rack ≡ rack.shape l.initial.shard.rack;
  lands : OnBothTold (rack.told l.initial.shard.rack) (rack.told l.shard.rack)
      (LandsBelow (part_of l.initial.shard) l.initial.shard.slots l.pointer l.targets l.column l.columns.columns l.chosen l.failed.items);
  fails : FailsColumns (part_of l.initial.shard) l.initial.shard.slots l.pointer l.targets l.column l.initial.failed.items l.failed.items;
  counts : (first : Option ℕ → ℕ) → CountsFailed l.initial.failed.items first (rack.faults l.initial.shard.rack) → CountsFailed l.failed.items first (rack.faults l.shard.rack);
  room : vec_capacity l.failed ≡ vec_capacity l.initial.failed;
  answered : l.answered ≡ true → AnswerBelow (part_of l.initial.shard) l.initial.shard.slots l.pointer l.targets l.column;
  few : length l.failed.items ≤ length l.initial.failed.items + l.column * length l.targets;
}

use Rattle.std.proofs.Common.{◌≡◌, ◌≤◌}
use Rattle.std.specs.Prelude.{vec_capacity}
use Rattle.draid_shard.specs.Calls.{CountsFailed}
use Rattle.draid_blocks.specs.Reads.{ReadsColumns}
use Rattle.draid_shard.specs.States.{part_of}
use Rattle.draid_blocks.proofs.fetching.read_columns.Given as goal

abbrev pub invariant-loop-column : goal.invariant-loop-column
invariant-loop-column g l = let rack = g.R.Rack in record {
  whole : l.shard ≡ record l.initial.shard { rack = l.shard.rack };
  told : rack.told l.shard.rack ≡ rack.told l.initial.shard.rack;
  shape : rack.shape l.shard.rack ≡ rack.shape l.initial.shard.rack;
  read : ReadsColumns (part_of l.initial.shard) l.initial.shard.slots l.pointer l.column (rack.told l.initial.shard.rack) l.columns.items l.failed.items;
  room : l.initial.shard.geometry.g ≤ vec_capacity l.failed;
  counts : CountsFailed l.failed.items (rack.faults l.initial.shard.rack) (rack.faults l.shard.rack);
}

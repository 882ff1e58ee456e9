use Rattle.std.specs.Prelude.{◌≡◌, ◌≤◌, length, vec_capacity, vec_len}
use Rattle.draid_shard.specs.Calls.{CountsFailed}
use Rattle.draid_restore.specs.Reading.{ReadsSpots}
use Rattle.draid_restore.proofs.reading.read_spots.Given as goal

abbrev pub invariant-loop-i : goal.invariant-loop-i
invariant-loop-i g l = let rack = g.R.Rack in record {
  reads : ReadsSpots l.extent.count l.extent.size l.spots l.i (rack.told l.initial.rack) l.lent.columns.items l.lent.failed.items;
  many : length l.lent.columns.items ≡ length l.initial.lent.columns.items;
  spare : length l.lent.spare.items ≡ length l.initial.lent.spare.items;
  told : rack.told l.rack ≡ rack.told l.initial.rack;
  shape : rack.shape l.rack ≡ rack.shape l.initial.rack;
  counts : CountsFailed l.lent.failed.items (rack.faults l.initial.rack) (rack.faults l.rack);
  few : vec_len l.lent.failed ≤ l.i;
  room : vec_capacity l.lent.failed ≡ vec_capacity l.initial.lent.failed;
}

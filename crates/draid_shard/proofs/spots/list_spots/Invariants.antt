use Rattle.std.specs.Prelude.{◌≡◌, ◌≤◌, ◌*◌, ◌↔◌, IsTrue, vec_capacity, vec_len}
use Rattle.draid_shard.specs.Loans.{most_arms}
use Rattle.draid_shard.specs.States.{part_of}
use Rattle.draid_shard.specs.Spots.{CleanBelow, spots_below}
use Rattle.draid_shard.proofs.spots.list_spots.Given as goal

abbrev pub invariant-loop-column : goal.invariant-loop-column
invariant-loop-column g l = record {
  listed : l.spots.items ≡ spots_below (part_of l.shard) l.shard.slots l.pointer l.column;
  answered : IsTrue l.answered ↔ CleanBelow (part_of l.shard) l.shard.slots l.pointer l.column;
  few : vec_len l.spots ≤ most_arms * l.column;
  room : vec_capacity l.spots ≡ vec_capacity l.initial.spots;
}

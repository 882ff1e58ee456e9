use Rattle.std.specs.Prelude.{◌≡◌, ◌≤◌, ◌+◌, ◌++◌, ◌↔◌, IsTrue, drop, vec_capacity, vec_len}
use Rattle.draid_slots.specs.Table.{arms_of}
use Rattle.draid_shard.specs.Spots.{CleanAmong, spots_from, spots_in}
use Rattle.draid_shard.proofs.spots.list_column.Given as goal

abbrev pub invariant-loop-arm : goal.invariant-loop-arm
invariant-loop-arm l = record {
  listed : l.spots.items ++ spots_from l.slots l.rows l.column l.arm (drop l.arm (arms_of l.slots l.rows.slot)) ≡ l.initial.spots.items ++ spots_in l.slots l.rows l.column;
  answered : IsTrue l.answered ↔ CleanAmong l.slots l.rows l.arm;
  few : vec_len l.spots ≤ vec_len l.initial.spots + l.arm;
  room : vec_capacity l.spots ≡ vec_capacity l.initial.spots;
}

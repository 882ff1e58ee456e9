use Rattle.std.proofs.Common.{◌≡◌, ◌<◌, ℕ, false, length, slice_index_or}
use Rattle.draid_shard.specs.Losing.{is_missed_on}
use Rattle.draid_shard.proofs.losing.missed_arms.Given as goal

abbrev pub invariant-loop-arm : goal.invariant-loop-arm
invariant-loop-arm l = record {
  count : length l.marks ≡ 3;
  below : (arm : ℕ) → arm < l.arm → slice_index_or l.marks arm false ≡ is_missed_on l.slots l.rows l.failed arm;
}

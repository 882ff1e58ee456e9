use Rattle.std.proofs.Common.{◌≡◌, ◌++◌, ◌+◌, length, reverse, vec_capacity, vec_len}
use Rattle.draid_section.specs.Opening.{AreFirst, shards_under}
use Rattle.draid_section.proofs.locks.lock_rest.Given as goal

abbrev pub decreases-shards : goal.decreases-shards
decreases-shards g l = vec_len l.shards

abbrev pub invariant-shards : goal.invariant-shards
invariant-shards g l = record {
  locked : l.initial.shards.items ≡ l.shards.items ++ reverse (shards_under l.turns.items);
  first : AreFirst l.turns.items l.firsts.items;
  many : length l.turns.items + length l.shards.items ≡ length l.initial.shards.items;
  back : vec_capacity l.shards ≡ vec_capacity l.initial.shards;
  room : vec_capacity l.turns ≡ vec_capacity l.initial.turns;
  room_firsts : vec_capacity l.firsts ≡ vec_capacity l.initial.firsts;
}

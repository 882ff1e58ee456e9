use Rattle.std.proofs.Common.{◌≡◌, ◌+◌, length, vec_capacity, vec_len}
use Rattle.draid_section.proofs.Locking.{Closing}
use Rattle.draid_section.proofs.locks.take_back.Given as goal

abbrev pub decreases-turns : goal.decreases-turns
decreases-turns g l = vec_len l.turns

abbrev pub invariant-turns : goal.invariant-turns
invariant-turns g l = record {
  closing : Closing g.R.Rack g.A.Area l.initial.turns.items l.initial.firsts.items l.initial.back.items l.turns.items l.firsts.items l.back.items;
  room : vec_capacity l.back ≡ vec_capacity l.initial.back;
  many : length l.back.items + length l.turns.items ≡ length l.initial.back.items + length l.initial.turns.items;
}

use Rattle.std.proofs.Common.{◌≡◌, ◌+◌}
use Rattle.draid_store.proofs.Feeding.{Feeding}
use Rattle.draid_store.proofs.summing.feed.Given as goal

-- the answers so far are bytes, which the hasher was given
abbrev pub invariant-loop-solve : goal.invariant-loop-solve
invariant-loop-solve l = record {
  feeding : Feeding l.solves l.solve-index l.initial.hasher l.hasher;
  at : l.object ≡ l.first + l.solve-index;
}

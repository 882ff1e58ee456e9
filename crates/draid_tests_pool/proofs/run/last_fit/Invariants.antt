use Rattle.std.proofs.Common.{◌+◌, ◌<◌, ◌≤◌, ℕ, length, slice_index_or}
use Rattle.draid_names.specs.declared.room.Room.{Room}
use Rattle.draid_tests_pool.proofs.run.last_fit.Given as goal

-- none of the rooms behind is large enough
abbrev pub invariant-loop-k : goal.invariant-loop-k
invariant-loop-k l = (j : ℕ) (d : Room) → length l.rooms ≤ j + l.k → j < length l.rooms → (slice_index_or l.rooms j d).run < (slice_index_or l.rooms j d).need

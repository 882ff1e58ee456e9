use Rattle.std.proofs.Common.{◌<◌, ℕ, slice_index_or}
use Rattle.draid_names.specs.declared.room.Room.{Room}
use Rattle.draid_choose.proofs.first.first_fit.Given as goal

-- no room so far is large enough
abbrev pub invariant-loop-k : goal.invariant-loop-k
invariant-loop-k l = (j : ℕ) (d : Room) → j < l.k → (slice_index_or l.rooms j d).run < (slice_index_or l.rooms j d).need

use Rattle.std.proofs.Common.{◌≡◌, ◌<◌, ℕ, [], false, map}
use Rattle.std.specs.Prelude.{slice_index_or}
use Rattle.draid_slots.specs.Table.{arms_in, has_spare}
use Rattle.draid_slots.proofs.lists.slot_with.Given as goal

abbrev pub invariant-loop-slot : goal.invariant-loop-slot
invariant-loop-slot l = (slot : ℕ) → slot < l.slot → has_spare (slice_index_or (map arms_in l.slots) slot []) l.spare ≡ false

-- What calls do to the devices of a shard, and what they leave of its reserve.
use Rattle.std.specs.Prelude.{◌≡◌, ◌≤◌, ◌+◌, ◌-◌, ◌^◌, ◌==◌, ℕ, List, Option, Some, min, count_by}
use Rattle.draid_rack.specs.Rack.{OnBothTold}
use Rattle.draid_rack.specs.declared.Rack.{Ghosts}
use Rattle.draid_machine.specs.declared.event.Event.{Event}
use Rattle.draid_machine.specs.Created.{IsReached}
use Rattle.draid_machine.specs.State as machine
use Rattle.draid_machine.specs.Step.{Step}
use Rattle.draid_segments.specs.Acts.{Acts}
use Rattle.draid_segments.specs.Segments.{Pieces}
use Rattle.draid_entries.specs.History.{limit_in, reserved_of}
use Rattle.draid_shard.specs.States.{IsIn, layout_by}
use Rattle.draid_shard.specs.declared.shard.Shard.{Shard}

-- ---- devices

-- the areas are as they were, and so are all devices
pub record SameAreas {R A : Type 0} (old new : Shard R A) : Type 0 where
  pub even : new.even ≡ old.even
  pub odd : new.odd ≡ old.odd

pub record SameKit {R A : Type 0} (old new : Shard R A) : Type 0 where
  pub rack : new.rack ≡ old.rack
  pub areas : SameAreas old new

-- No count falls, and that of each leaf rises for each time that it is named as failed. It stands still at the greatest number of 64 bits.
pub record CountsFailed (failed : List ℕ) (old new : Option ℕ → ℕ) : Type 0 where
  pub later : (who : Option ℕ) → old who ≤ new who
  pub cause : (leaf : ℕ) → min (old (Some leaf) + count_by (λ l. l == leaf) failed) (2 ^ 64 - 1) ≤ new (Some leaf)

-- The rack did what the call of an event does to it, in each state for which the shard stood. These are the pieces that the call writes.
abbrev pub ActsOn : {R A : Type 0} → Ghosts R → Shard R A → Shard R A → Event → Pieces → Type 0
ActsOn rack old new e pieces =
    (w after : machine.State) (step : Step (layout_by old) w e after) → IsReached (layout_by old) w → IsIn old w
    → OnBothTold (rack.told old.rack) (rack.told new.rack) (Acts (layout_by old) w e after step pieces)

-- ---- events

-- as many events are reserved, and as many may be stored and owed
pub record SameReserve {R A : Type 0} (old new : Shard R A) : Type 0 where
  pub reserved : reserved_of new.history ≡ reserved_of old.history
  pub limit : limit_in new.history ≡ limit_in old.history

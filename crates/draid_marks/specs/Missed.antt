-- The logs of some arms get a group.
use Rattle.std.specs.Prelude.{◌≡◌, ◌==◌, ◌<◌, ◌≤◌, ◌+◌, ◌||◌, ◌&&◌, not, ℕ, Bool, true, false, nat_lt, List, length, slice_index_or, if◌then◌else◌}
use Rattle.draid_names.specs.declared.arm.ArmAt.{ArmAt}
use Rattle.draid_slots.specs.Changes.{IsSame}
use Rattle.draid_slots.specs.Marks.{is_marked}
use Rattle.draid_slots.specs.Table.{SlotTable, IsThere, arms_of, is_logged, room_at}

-- those of the logs of these arms that lack a group have room for it
abbrev pub HaveRoom : SlotTable → (ArmAt → Bool) → ℕ → Type 0
HaveRoom slots arms group = (at : ArmAt) → IsThere slots at → arms at ≡ true → is_logged slots at group ≡ false → 0 < room_at slots at

-- The logs of these arms have a group. It took the room of one change of each log that has it now and hadn't. All else stays.
pub record Misses (old new : SlotTable) (missed : ArmAt → Bool) (group : ℕ) : Type 0 where
  pub same : IsSame old new
  pub arms_stay : new.arms ≡ old.arms
  pub logged : (at : ArmAt) (g : ℕ) → is_logged new at g ≡ (is_logged old at g || (missed at && (g == group)))
  pub detached_stay : new.detached ≡ old.detached
  pub room : (at : ArmAt) → room_at old at ≤ room_at new at + (if is_logged new at group && not (is_logged old at group) then 1 else 0)
  pub next_stays : new.next ≡ old.next
  pub places_stay : new.places ≡ old.places

-- an arm is there and marked
abbrev pub is_marked_arm : SlotTable → List (List Bool) → ArmAt → Bool
is_marked_arm slots marks at = nat_lt at.arm (length (arms_of slots at.slot)) && is_marked marks at.slot at.arm

-- it is one of a slot, before an arm, and marked
abbrev pub is_marked_below : List Bool → ℕ → ℕ → ArmAt → Bool
is_marked_below marks slot arm at = ((at.slot == slot) && nat_lt at.arm arm) && slice_index_or marks at.arm false

-- where something was written, the marked arms miss a group
abbrev pub MarksTable : SlotTable → SlotTable → List (List Bool) → Bool → ℕ → Type 0
MarksTable old new marks wrote group = Misses old new (λ at. wrote && is_marked_arm old marks at) group

-- What is done to the logs of a pass's targets.
use Rattle.std.specs.Prelude.{◌≡◌, ◌+◌, ◌≤◌, ◌&&◌, ◌||◌, not, ◌∷◌, [], ℕ, Bool, false, nat_le, List, option_map, if◌then◌else◌}
use Rattle.draid_names.specs.declared.arm.Arm.{Arm}
use Rattle.draid_names.specs.declared.arm.ArmAt.{ArmAt}
use Rattle.draid_ranges.specs.Runs.{is_between}
use Rattle.draid_slots.specs.Changes.{IsSame}
use Rattle.draid_slots.specs.Table.{SlotTable, arm_at, is_at, is_logged, room_at}

-- whether a list has a place
abbrev pub has_place : List ArmAt → ArmAt → Bool
has_place [] at = false
has_place (t ∷ ts) at = is_at t at || has_place ts at

-- The logs of some arms are those of the groups from 1 to one. It took the room of one change of each of them at most. All else stays.
pub record Fills (old new : SlotTable) (filled : ArmAt → Bool) (upto : ℕ) : Type 0 where
  pub same : IsSame old new
  pub arms_stay : new.arms ≡ old.arms
  pub logged : (at : ArmAt) (group : ℕ) → is_logged new at group ≡ (if filled at then is_between 1 (upto + 1) group else is_logged old at group)
  pub detached_stay : new.detached ≡ old.detached
  pub room : (at : ArmAt) → room_at old at ≤ room_at new at + (if filled at then 1 else 0)
  pub next_stays : new.next ≡ old.next
  pub places_stay : new.places ≡ old.places

-- an arm that was made good isn't fresh any more
abbrev pub made_good : Bool → Arm → Arm
made_good good arm = record arm { fresh = arm.fresh && not good }

-- The groups up to one leave the logs of some arms, which aren't fresh any more. There is no less room, and all else stays.
pub record Excises (old new : SlotTable) (good : ArmAt → Bool) (upto : ℕ) : Type 0 where
  pub same : IsSame old new
  pub arms_are : (at : ArmAt) → arm_at new at ≡ option_map (made_good (good at)) (arm_at old at)
  pub logged : (at : ArmAt) (group : ℕ) → is_logged new at group ≡ (is_logged old at group && not (good at && nat_le group upto))
  pub detached_stay : new.detached ≡ old.detached
  pub room : (at : ArmAt) → room_at old at ≤ room_at new at
  pub next_stays : new.next ≡ old.next
  pub places_stay : new.places ≡ old.places

use Rattle.std.specs.Prelude.{◌&&◌, ◌++◌, ◌+◌, ◌<◌, ◌==◌, ◌∷◌, ◌≡◌, ◌≢◌, ◌≤◌, All, Bool, List, Some, [], false, filter, if◌then◌else◌, length, nat_le, nat_lt, remove, slice_index_or, true, ℕ}
use Rattle.std.specs.Option.{option_map}
use Rattle.draid_names.specs.declared.arm.Arm.{Arm}
use Rattle.draid_names.specs.declared.arm.ArmAt.{ArmAt}
use Rattle.draid_names.specs.declared.arm.ArmKind.TheVariants.{Leaf}
use Rattle.draid_perm.specs.declared.perms.Perms.{Perms}
use Rattle.draid_ranges.specs.Numbers.{Numbers, has}
use Rattle.draid_ranges.specs.Runs.{is_between}
use Rattle.draid_spec.specs.declared.layout.Geometry.{Geometry}
use Rattle.draid_slots.specs.declared.slot.Detached.{Detached}
use Rattle.draid_slots.specs.Table.{SlotTable, IsThere, arm_at, arms_of, is_at, is_leaf_of, is_logged, log_at, log_in, no_log, room_at}

-- slots of this metaslab of this pool
pub record IsOf (table : SlotTable) (geometry : Geometry) (perms : Perms) (metaslab : ℕ) : Type 0 where
  pub geometry_is : table.geometry ≡ geometry
  pub perms_are : table.perms ≡ perms
  pub metaslab_is : table.metaslab ≡ metaslab

-- the arm of a new pool's slot
abbrev pub new_arm : ℕ → Arm
new_arm slot = record { kind = Leaf; number = slot; offline = false; fresh = false }

-- slots of the same metaslab
abbrev pub IsSame : SlotTable → SlotTable → Type 0
IsSame old new = IsOf new old.geometry old.perms old.metaslab

-- the slots of a new pool: each has the leaf of its own number, which missed nothing
pub record IsNew (children : ℕ) (table : SlotTable) : Type 0 where
  pub count : length table.arms ≡ children
  pub arms_are : (slot : ℕ) → slot < children → arms_of table slot ≡ new_arm slot ∷ []
  pub missed_none : (at : ArmAt) (group : ℕ) → is_logged table at group ≡ false
  pub detached_none : table.detached ≡ []

-- neither arms nor logs nor what is detached change
pub record Keeps (old new : SlotTable) : Type 0 where
  pub same : IsSame old new
  pub arms_stay : new.arms ≡ old.arms
  pub logs_stay : (at : ArmAt) (group : ℕ) → is_logged new at group ≡ is_logged old at group
  pub detached_stay : new.detached ≡ old.detached

-- there is no less room in memory
pub record IsRoomier (old new : SlotTable) : Type 0 where
  pub logs : (at : ArmAt) → room_at old at ≤ room_at new at
  pub count : length old.next ≤ length new.next
  pub next : (k : ℕ) → slice_index_or old.next k 0 ≤ slice_index_or new.next k 0
  pub places : old.places ≤ new.places

-- The log of the arm at a place has just the groups that pass the test. Other logs stay, and so do arms and what
-- is detached. It takes the room of one change of that log at most.
pub record ChangesLog (old new : SlotTable) (at : ArmAt) (test : ℕ → Bool) : Type 0 where
  pub same : IsSame old new
  pub arms_stay : new.arms ≡ old.arms
  pub logged : (other : ArmAt) (group : ℕ) → is_logged new other group ≡ (if is_at at other then test group else is_logged old other group)
  pub detached_stay : new.detached ≡ old.detached
  pub room : (other : ArmAt) → room_at old other ≤ room_at new other + (if is_at at other then 1 else 0)
  pub next_stays : new.next ≡ old.next
  pub places_stay : new.places ≡ old.places

-- The log of the arm at a place is this one, and all else stays.
pub record SetsLog (old new : SlotTable) (at : ArmAt) (log : Numbers) : Type 0 where
  pub same : IsSame old new
  pub arms_stay : new.arms ≡ old.arms
  pub logs_are : (other : ArmAt) → log_at new other ≡ (if is_at at other then log else log_at old other)
  pub detached_stay : new.detached ≡ old.detached
  pub next_stays : new.next ≡ old.next
  pub places_stay : new.places ≡ old.places

-- Each arm is what `change` makes of it. Logs and what is detached stay.
pub record ChangesArms (old new : SlotTable) (change : ArmAt → Arm → Arm) : Type 0 where
  pub same : IsSame old new
  pub arms_are : (at : ArmAt) → arm_at new at ≡ option_map (change at) (arm_at old at)
  pub logs_stay : new.logs ≡ old.logs
  pub detached_stay : new.detached ≡ old.detached
  pub next_stays : new.next ≡ old.next
  pub places_stay : new.places ≡ old.places

-- the arm at a place is made fresh, or isn't any more
abbrev pub freshened : ArmAt → Bool → ArmAt → Arm → Arm
freshened at value other arm = if is_at at other then record arm { fresh = value } else arm

-- a leaf is taken offline, or online
abbrev pub switched_arm : ℕ → Bool → Arm → Arm
switched_arm leaf value arm = if is_leaf_of leaf arm then record arm { offline = value } else arm

abbrev pub switched : ℕ → Bool → ArmAt → Arm → Arm
switched leaf value at arm = switched_arm leaf value arm

-- The last of some logs was taken, of which one change took the room for one at most.
pub record TakesRoom (old new : List ℕ) (left : ℕ) : Type 0 where
  pub room : ℕ
  pub taken : old ≡ new ++ room ∷ []
  pub used : room ≤ left + 1

-- A slot has one more arm, the last, which is fresh and missed the groups from 1 to `upto`. All else stays.
pub record Attaches (old new : SlotTable) (slot : ℕ) (arm : Arm) (upto : ℕ) : Type 0 where
  pub same : IsSame old new
  pub here : arms_of new slot ≡ arms_of old slot ++ record arm { fresh = true } ∷ []
  pub others : (other : ℕ) → other ≢ slot → arms_of new other ≡ arms_of old other
  pub logged : (at : ArmAt) (group : ℕ) → is_logged new at group
      ≡ (if (at.slot == slot) && (at.arm == length (arms_of old slot)) then is_between 1 (upto + 1) group else is_logged old at group)
  pub room : (at : ArmAt) → IsThere old at → room_at new at ≡ room_at old at
  pub detached_stay : new.detached ≡ old.detached
  pub next_used : TakesRoom old.next new.next (room_at new (record { slot = slot; arm = length (arms_of old slot) }))
  pub places_stay : new.places ≡ old.places

-- where the arm at a place stood before one of its slot went
abbrev pub behind : ArmAt → ArmAt → ArmAt
behind at other = record { slot = other.slot; arm = other.arm + (if (other.slot == at.slot) && nat_le at.arm other.arm then 1 else 0) }

-- An arm goes, those behind it move up, and it is detached in this group. All else stays.
pub record Detaches (old new : SlotTable) (at : ArmAt) (group : ℕ) : Type 0 where
  pub same : IsSame old new
  pub here : arms_of new at.slot ≡ remove (arms_of old at.slot) at.arm
  pub others : (other : ℕ) → other ≢ at.slot → arms_of new other ≡ arms_of old other
  pub logged : (other : ArmAt) (number : ℕ) → is_logged new other number ≡ is_logged old (behind at other) number
  pub room : (other : ArmAt) → room_at new other ≡ room_at old (behind at other)
  pub gone : (arm : Arm) → arm_at old at ≡ Some arm
      → new.detached ≡ old.detached ++ record { kind = arm.kind; number = arm.number; slot = at.slot; group = group; offline = arm.offline } ∷ []
  pub next_stays : new.next ≡ old.next
  pub places_less : new.places + 1 ≡ old.places

-- The detachments up to a group are forgotten. All else stays, and there is no less room.
pub record Commits (old new : SlotTable) (group : ℕ) : Type 0 where
  pub same : IsSame old new
  pub arms_stay : new.arms ≡ old.arms
  pub logs_stay : new.logs ≡ old.logs
  pub detached_later : new.detached ≡ filter (λ (gone : Detached). nat_lt group gone.group) old.detached
  pub next_stays : new.next ≡ old.next
  pub places_more : old.places ≤ new.places

-- room for so many changes of each log, for so many more arms, each with so many of its own, and for as many detachments
pub record HasRoom (table : SlotTable) (changes arms : ℕ) : Type 0 where
  pub logs : (at : ArmAt) → IsThere table at → changes ≤ room_at table at
  pub arms_come : arms ≤ length table.next
  pub arm_logs : All (λ (room : ℕ). changes < room) table.next
  pub places : arms ≤ table.places

-- the logs of a slot have the same groups, no less room, and those before `upto` room for so many changes
pub record AreGrown (old new : List Numbers) (upto changes : ℕ) : Type 0 where
  pub len : length new ≡ length old
  pub members : (k group : ℕ) → has (slice_index_or new k no_log) group ≡ has (slice_index_or old k no_log) group
  pub kept : (k : ℕ) → (slice_index_or old k no_log).room ≤ (slice_index_or new k no_log).room
  pub reserved : (k : ℕ) → k < upto → changes ≤ (slice_index_or new k no_log).room

-- the same of the logs of all slots
pub record AreAllGrown (old new : List (List Numbers)) : Type 0 where
  pub count : length new ≡ length old
  pub each : (slot : ℕ) → AreGrown (slice_index_or old slot []) (slice_index_or new slot []) 0 0

-- the logs of the slots before `upto` have room for so many changes
abbrev pub AreReserved : List (List Numbers) → ℕ → ℕ → Type 0
AreReserved logs upto changes = (at : ArmAt) → at.slot < upto → at.arm < length (slice_index_or logs at.slot []) → changes ≤ (log_in logs at).room

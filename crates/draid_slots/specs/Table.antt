use Rattle.std.specs.Prelude.{◌≡◌, ◌==◌, ◌<◌, ◌≤◌, ◌^◌, ◌||◌, ◌&&◌, not, if◌then◌else◌, ℕ, Bool, true, false, Option, None, Some, List, [], ◌∷◌, map, All, length, slice_get, slice_index_or, vec_capacity}
use Rattle.std.specs.List.{list_any}
use Rattle.std.specs.declared.alloc.Global.{Global}
use Rattle.std.specs.declared.vec.Vec.{Vec}
use Rattle.draid_names.specs.declared.arm.Arm.{Arm}
use Rattle.draid_names.specs.declared.arm.ArmAt.{ArmAt}
use Rattle.draid_names.specs.declared.arm.ArmKind.{ArmKind}
use Rattle.draid_names.specs.declared.arm.ArmKind.TheVariants.{Leaf, Spare}
use Rattle.draid_map.specs.Place.{IsLayout}
use Rattle.draid_perm.specs.declared.perms.Perms.{Perms}
use Rattle.draid_ranges.specs.Numbers.{Numbers, count_below, has}
use Rattle.draid_spec.specs.declared.layout.Geometry.{Geometry}
use Rattle.draid_slots.specs.declared.slot.Detached.{Detached}
use Rattle.draid_slots.specs.declared.slot.Slot.{Slot}

-- What contracts see of the slots of a metaslab: the pool's layout and the metaslab's number; of each slot its
-- arms in the order of attachment and the log of each; the arms that were detached in groups that aren't
-- committed; and the room in memory: of the log of each arm that may still come, and for how many more detachments.
pub record SlotTable : Type 0 where
  pub geometry : Geometry
  pub perms : Perms
  pub metaslab : ℕ
  pub arms : List (List Arm)
  pub logs : List (List Numbers)
  pub detached : List Detached
  pub next : List ℕ
  pub places : ℕ

-- ---- arms and logs by slot and arm

-- the arms of a slot, none where it isn't there
abbrev pub arms_of : SlotTable → ℕ → List Arm
arms_of table slot = slice_index_or table.arms slot []

-- the arm at a place
abbrev pub arm_at : SlotTable → ArmAt → Option Arm
arm_at table at = slice_get (arms_of table at.slot) at.arm

abbrev pub IsThere : SlotTable → ArmAt → Type 0
IsThere table at = at.arm < length (arms_of table at.slot)

-- the log of no arm
abbrev pub no_log : Numbers
no_log = record { runs = []; room = 0 }

-- the log of the arm at a place
abbrev pub log_in : List (List Numbers) → ArmAt → Numbers
log_in logs at = slice_index_or (slice_index_or logs at.slot []) at.arm no_log

abbrev pub log_at : SlotTable → ArmAt → Numbers
log_at table at = log_in table.logs at

-- whether the log of the arm at a place has a group
abbrev pub is_logged : SlotTable → ArmAt → ℕ → Bool
is_logged table at group = has (log_at table at) group

-- how many groups a log has
abbrev pub count_of : Numbers → ℕ
count_of log = count_below (has log) (2 ^ 48)

abbrev pub count_at : SlotTable → ArmAt → ℕ
count_at table at = count_of (log_at table at)

-- for how many more changes of it there is room in memory
abbrev pub room_at : SlotTable → ArmAt → ℕ
room_at table at = (log_at table at).room

abbrev pub is_at : ArmAt → ArmAt → Bool
is_at at other = (at.slot == other.slot) && (at.arm == other.arm)

-- ---- leaves and spares

abbrev pub is_leaf_kind : ArmKind → Bool
is_leaf_kind Leaf = true
is_leaf_kind Spare = false

abbrev pub is_leaf : Arm → Bool
is_leaf arm = is_leaf_kind arm.kind

abbrev pub is_leaf_of : ℕ → Arm → Bool
is_leaf_of leaf arm = is_leaf_kind arm.kind && (arm.number == leaf)

abbrev pub is_spare_kind : ArmKind → Bool
is_spare_kind Leaf = false
is_spare_kind Spare = true

abbrev pub is_spare_of : ℕ → Arm → Bool
is_spare_of spare arm = is_spare_kind arm.kind && (arm.number == spare)

abbrev pub has_leaf : List Arm → Bool
has_leaf arms = list_any is_leaf arms

abbrev pub has_spare : List Arm → ℕ → Bool
has_spare arms spare = list_any (is_spare_of spare) arms

-- there is an arm, of this kind and number
abbrev pub IsArmOf : ArmKind → ℕ → Option Arm → Type 0
IsArmOf kind number found = (arm : Arm) × (found ≡ Some arm) × (arm.kind ≡ kind) × (arm.number ≡ number)

-- whether a spare was detached from a slot in a group that isn't committed
abbrev pub was_spare_of : List Detached → ℕ → ℕ → Bool
was_spare_of detached spare slot = list_any (λ (gone : Detached). is_spare_kind gone.kind && ((gone.number == spare) && (gone.slot == slot))) detached

-- whether a spare is an arm of a slot, or was one and its detachment isn't committed, by the arms and by what is
-- detached
abbrev pub holds_in : List (List Arm) → List Detached → ℕ → ℕ → Bool
holds_in arms detached spare slot = has_spare (slice_index_or arms slot []) spare || was_spare_of detached spare slot

abbrev pub holds_spare : SlotTable → ℕ → ℕ → Bool
holds_spare table spare slot = holds_in table.arms table.detached spare slot

-- the first spare of some arms
abbrev pub first_spare : List Arm → Option ℕ
first_spare [] = None
first_spare (arm ∷ arms) = if is_spare_kind arm.kind then Some arm.number else first_spare arms

-- the first spare of each slot
abbrev pub first_spares : SlotTable → ℕ → Option ℕ
first_spares table slot = first_spare (arms_of table slot)

-- whether a leaf was an arm, answered as it was detached, and its detachment isn't committed
abbrev pub is_leaving_online : SlotTable → ℕ → Bool
is_leaving_online table leaf =
    list_any (λ (gone : Detached). is_leaf_kind gone.kind && ((gone.number == leaf) && not gone.offline)) table.detached

-- whether a leaf was an arm, and its detachment isn't committed
abbrev pub is_leaving : SlotTable → ℕ → Bool
is_leaving table leaf = list_any (λ (gone : Detached). is_leaf_kind gone.kind && (gone.number == leaf)) table.detached

-- ---- what a record may say of arms, and what always holds

-- one to three arms, of which one is a leaf, and spares that the pool has
pub record IsSlot (spares : ℕ) (arms : List Arm) : Type 0 where
  pub most : length arms ≤ 3
  pub leaf : has_leaf arms ≡ true
  pub pooled : All (λ (arm : Arm). is_spare_kind arm.kind ≡ true → arm.number < spares) arms

-- the arms of each child: no spare stands in two slots, and none that is to be free at a commit stands in another
pub record AreSlots (geometry : Geometry) (arms : List (List Arm)) (detached : List Detached) : Type 0 where
  pub children : length arms ≡ geometry.spec.children
  pub each : All (IsSlot geometry.spec.spares) arms
  pub once : (spare slot other : ℕ) → holds_in arms detached spare slot ≡ true → holds_in arms detached spare other ≡ true → slot ≡ other

-- slots of a metaslab of a pool
pub record AreOf (geometry : Geometry) (perms : Perms) (metaslab : ℕ) (arms : List (List Arm)) (detached : List Detached) : Type 0 where
  pub layout : IsLayout geometry perms
  pub low : metaslab < geometry.props.metaslabs
  pub slots : AreSlots geometry arms detached

abbrev pub IsTable : SlotTable → Type 0
IsTable table = AreOf table.geometry table.perms table.metaslab table.arms table.detached

-- ---- how it is kept

abbrev pub arms_in : Slot → List Arm
arms_in slot = slot.arms.items

abbrev pub logs_in : Slot → List Numbers
logs_in slot = slot.logs.items

-- a log for each arm, and room for three of both
pub record IsPaired (slot : Slot) : Type 0 where
  pub same : length (logs_in slot) ≡ length (arms_in slot)
  pub arm_room : 3 ≤ vec_capacity slot.arms
  pub log_room : 3 ≤ vec_capacity slot.logs

-- the facts of the fields
pub record AreKept (geometry : Geometry) (perms : Perms) (metaslab : ℕ) (slots : List Slot) (detached : List Detached) : Type 0 where
  pub paired : All IsPaired slots
  pub sound : AreOf geometry perms metaslab (map arms_in slots) detached

-- the room of each log of an arm that may still come
abbrev pub next_rooms : List Numbers → List ℕ
next_rooms logs = map (λ (log : Numbers). log.room) logs

-- what contracts see of the fields
abbrev pub table_of : Geometry → Perms → ℕ → List Slot → List Detached → List ℕ → ℕ → SlotTable
table_of geometry perms metaslab slots detached next places =
    record {
      geometry = geometry;
      perms = perms;
      metaslab = metaslab;
      arms = map arms_in slots;
      logs = map logs_in slots;
      detached = detached;
      next = next;
      places = places;
    }

-- the arms and the logs of lists of both
abbrev pub arms_listed : List (Vec (Arm × Numbers) Global) → List (List Arm)
arms_listed lists = map (λ (list : Vec (Arm × Numbers) Global). map (λ (pair : Arm × Numbers). pair.0) list.items) lists

abbrev pub logs_listed : List (Vec (Arm × Numbers) Global) → List (List Numbers)
logs_listed lists = map (λ (list : Vec (Arm × Numbers) Global). map (λ (pair : Arm × Numbers). pair.1) list.items) lists

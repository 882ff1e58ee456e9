-- A metaslab is opened from the bytes of a record: which faults refuse that, and its tables.
use Rattle.std.specs.Prelude.{◌≡◌, ◌==◌, ◌+◌, ◌-◌, ◌*◌, ◌<◌, ◌≤◌, ◌&&◌, not, ⊤, ℕ, Bool, true, false, nat_le, nat_lt, List, [], ◌∷◌, Option, Some, None, IfSome, Result, Ok, Err, drop, length, map, option_map, slice_index_or, unwrap_or, if◌then◌else◌}
use Rattle.std.specs.List.{list_any}
use Rattle.std.specs.Option.{option_or}
use Rattle.std.specs.declared.alloc.Global.{Global}
use Rattle.std.specs.declared.vec.Vec.{Vec}
use Rattle.byteorder.specs.Endian.{big_number}
use Rattle.draid_record.specs.declared.fault.RecordFaultKind.TheVariants as why
use Rattle.draid_names.specs.declared.arm.Arm.{Arm}
use Rattle.draid_names.specs.declared.pointer.Pointer.{Pointer}
use Rattle.draid_spec.specs.declared.layout.Geometry.{Geometry}
use Rattle.draid_spec.specs.Geometry.{metaslab_stripes}
use Rattle.draid_perm.specs.declared.perms.Perms.{Perms}
use Rattle.draid_rack.specs.Rack.{Shape}
use Rattle.draid_ranges.specs.Numbers.{Numbers, has}
use Rattle.draid_ranges.specs.Runs.{has_in}
use Rattle.draid_ranges.specs.declared.run.Run.{Run}
use Rattle.draid_metaslab.specs.Spaces.{Frees, Stripes}
use Rattle.draid_machine.specs.After.{cut_above, each_arm}
use Rattle.draid_machine.specs.State as machine
use Rattle.draid_slots.specs.Changes.{HasRoom, IsOf}
use Rattle.draid_slots.specs.Table.{SlotTable, is_leaf, is_leaf_of}
use Rattle.draid_entries.specs.Live.{HasLive, first_twice}
use Rattle.draid_record.specs.declared.sizes.TheConstants.{BLOCK_BYTES, SLOTS_AT}
use Rattle.draid_record.specs.Ranges.{IsRanged}
use Rattle.draid_record.specs.Record.{ArmTold, RecordTold, record_of}
use Rattle.draid_record.specs.declared.fault.RecordFault.{RecordFault}
use Rattle.draid_record.specs.declared.fault.RecordFault.TheVariants.{Bad, NoMemory}
use Rattle.draid_record.specs.declared.limits.Limits.{Limits}
use Rattle.draid_stable.specs.Images.{image_by, pass_of}
use Rattle.draid_slots.specs.States.{HasSlots, HoldsPass, pass_in}
use Rattle.draid_stable.specs.declared.opening.Tables.{Tables}

-- ---- leaves that aren't there

-- a leaf is there, with so many sectors
abbrev pub has_leaf : Shape → ℕ → ℕ → Bool
has_leaf shape sectors leaf = unwrap_or (option_map (λ n. n == sectors) (shape.leaves leaf)) false

-- an arm is a leaf that isn't there
abbrev pub is_lacking : (ℕ → Bool) → Arm → Bool
is_lacking there arm = is_leaf arm && not (there arm.number)

-- the bytes of an arm in a record: its kind, its number, its flags, the number of its log's runs, and each of these
abbrev pub arm_len : ArmTold → ℕ
arm_len told = 14 + 16 * length told.1

-- the bytes of arms one behind the other
abbrev pub arms_len : List ArmTold → ℕ
arms_len [] = 0
arms_len (a ∷ rest) = arm_len a + arms_len rest

-- the place of the number of the first arm that is a leaf which isn't there, behind an arm's kind: in a slot whose first arm stands at a place
abbrev pub lacking_in : (ℕ → Bool) → ℕ → List ArmTold → Option ℕ
lacking_in there place [] = None
lacking_in there place (a ∷ rest) = if is_lacking there a.0 then Some (place + 1) else lacking_in there (place + arm_len a) rest

-- and in slots of which the first stands at a place; the arms of each stand behind their number
abbrev pub lacking_from : (ℕ → Bool) → ℕ → List (List ArmTold) → Option ℕ
lacking_from there place [] = None
lacking_from there place (slot ∷ rest) = option_or (lacking_in there (place + 1) slot) (lacking_from there (place + 1 + arms_len slot) rest)

-- ---- blocks that stand twice

-- the length that a record says at its front
abbrev pub len_of : List ℕ → ℕ
len_of bytes = big_number 4 (drop 6 bytes)

-- where the block at a place of the list stands: the blocks are the last of a record
abbrev pub block_at : List ℕ → List Pointer → ℕ → ℕ
block_at bytes blocks place = len_of bytes - BLOCK_BYTES * (length blocks - place)

-- a list of blocks has one that stands twice, the first of which is at this place; else memory was wanting
abbrev pub IsTwice : List ℕ → List Pointer → RecordFault → Type 0
IsTwice bytes blocks (Bad place kind) = (k : ℕ) × (first_twice blocks ≡ Some k) × (place ≡ block_at bytes blocks k) × (kind ≡ why.Twice)
IsTwice bytes blocks NoMemory = ⊤

-- ---- the whole

-- Two further faults of a record that was read: a leaf arm that isn't there, looked for first, and a block whose object and seq one before it has.
abbrev pub once_in : List ℕ → RecordTold → Option ℕ → Result RecordTold RecordFault
once_in bytes value (Some place) = Err (Bad (block_at bytes value.blocks place) why.Twice)
once_in bytes value None = Ok value

abbrev pub there_in : List ℕ → RecordTold → Option ℕ → Result RecordTold RecordFault
there_in bytes value (Some place) = Err (Bad place why.Leaf)
there_in bytes value None = once_in bytes value (first_twice value.blocks)

abbrev pub fitting : (ℕ → Bool) → List ℕ → Result RecordTold RecordFault → Result RecordTold RecordFault
fitting there bytes (Err fault) = Err fault
fitting there bytes (Ok value) = there_in bytes value (lacking_from there SLOTS_AT value.slots)

-- what bytes tell to a rack that has these leaves: a record, or its first fault
abbrev pub opening_of : Limits → (ℕ → Bool) → List ℕ → Result RecordTold RecordFault
opening_of limits there bytes = fitting there bytes (record_of limits bytes)

-- ---- the tables

-- an arm stays, and its log loses the groups above one
pub record CutsArm (old new : Arm × Numbers) (group : ℕ) : Type 0 where
  pub arm : new.0 ≡ old.0
  pub log : (g : ℕ) → has new.1 g ≡ (has old.1 g && nat_le g group)

pub record CutsSlot (old new : List (Arm × Numbers)) (group : ℕ) : Type 0 where
  pub count : length new ≡ length old
  pub each : (k : ℕ) (d : Arm × Numbers) → k < length old → CutsArm (slice_index_or old k d) (slice_index_or new k d) group

pub record CutsSlots (old new : List (Vec (Arm × Numbers) Global)) (group : ℕ) : Type 0 where
  pub count : length new ≡ length old
  pub each : (k : ℕ) (d : Vec (Arm × Numbers) Global) → k < length old → CutsSlot (slice_index_or old k d).items (slice_index_or new k d).items group

-- the arms that a record tells, without their logs
abbrev pub arms_told : List (List ArmTold) → List (List Arm)
arms_told slots = map (λ (slot : List ArmTold). map (λ (told : ArmTold). told.0) slot) slots

-- what a state has that is opened from a record: the groups above the record's go from the logs
abbrev pub opened_core : RecordTold → machine.Core
opened_core value = record (image_by value).core { arm = each_arm (λ n. cut_above value.group) (image_by value).core.arm }

abbrev pub run_of : Pointer → Run
run_of b = record { first = b.first; len = b.stripes }

-- just the stripes of blocks are taken, and no run is deferred
pub record IsSpaceOf (geometry : Geometry) (blocks : List Pointer) (space : Stripes) : Type 0 where
  pub free : Frees space (λ x. nat_lt x (metaslab_stripes geometry) && not (has_in (map run_of blocks) x))
  pub height : space.height ≡ geometry.props.height
  pub total : space.total ≡ metaslab_stripes geometry
  pub held : space.held ≡ length blocks
  pub deferred : space.deferred ≡ []
  pub enabled : space.disabled ≡ false

-- The tables are those of a record. The slots have no detachment, and each log has room for the groups in which blocks may be born, twice.
pub record AreTablesOf (geometry : Geometry) (perms : Perms) (value : RecordTold) (t : Tables) : Type 0 where
  pub entries : HasLive t.entries value.blocks
  pub of : IsOf t.slots geometry perms value.metaslab
  pub arms : t.slots.arms ≡ arms_told value.slots
  pub detached : t.slots.detached ≡ []
  pub slots : HasSlots t.slots (opened_core value)
  pub room : HasRoom t.slots 4 0
  pub space : IsSpaceOf geometry value.blocks t.space
  pub pass : option_map (pass_of value) value.pass ≡ option_map (pass_in t.slots) t.pass
  pub last : t.last_pass ≡ value.last_pass
  pub holds : IfSome t.pass (HoldsPass t.slots t.last_pass)

-- The tables of a record that was read without a fault.
pub record AreRead (geometry : Geometry) (perms : Perms) (limits : Limits) (there : ℕ → Bool) (bytes : List ℕ) (t : Tables) : Type 0 where
  pub value : RecordTold
  pub found : opening_of limits there bytes ≡ Ok value
  pub ranged : IsRanged limits value
  pub tables : AreTablesOf geometry perms value t

-- ---- leaves that go

-- a leaf is an arm of some slot
abbrev pub has_leaf_arm : SlotTable → ℕ → Bool
has_leaf_arm table leaf = list_any (λ (arms : List Arm). list_any (is_leaf_of leaf) arms) table.arms

-- the rack's own count doesn't fall, nor that of a leaf that is an arm of some slot
pub record KeepsCounts (table : SlotTable) (old new : Option ℕ → ℕ) : Type 0 where
  pub own : old None ≤ new None
  pub leaves : (leaf : ℕ) → has_leaf_arm table leaf ≡ true → old (Some leaf) ≤ new (Some leaf)

-- What holds of the tables of a metaslab, so that the record of a group is in the ranges of a record.
use Rattle.std.specs.Prelude.{◌≡◌, ◌<◌, ◌≤◌, ◌+◌, ◌%◌, ◌^◌, ℕ, false, List, [], Option, None, Some, All, IfSome, length, map, option_map, slice_index_or}
use Rattle.draid_names.specs.Numbers.{most_held}
use Rattle.draid_names.specs.declared.numbers.TheConstants.{LONGEST_BLOCK, NUMBERS, OBJECTS}
use Rattle.draid_names.specs.declared.arm.Arm.{Arm}
use Rattle.draid_names.specs.declared.arm.ArmAt.{ArmAt}
use Rattle.draid_names.specs.declared.arm.ArmKind.TheVariants.{Leaf, Spare}
use Rattle.draid_names.specs.declared.pointer.Pointer.{Pointer}
use Rattle.draid_pass.specs.declared.pass.Pass.{Pass}
use Rattle.draid_entries.specs.declared.entry.Entry.{Entry}
use Rattle.draid_entries.specs.declared.entries.Entries.{Entries}
use Rattle.draid_entries.specs.Entries.{count_of, entry_at}
use Rattle.draid_record.specs.declared.limits.Limits.{Limits}
use Rattle.draid_record.specs.Ranges.{AreRuns, least_running}
use Rattle.draid_record.specs.Record.{ArmTold, PassTold, stripes_of, told_pass}
use Rattle.draid_record.specs.Written.{bit}
use Rattle.draid_slots.specs.Table.{SlotTable, arm_at, arms_of}
use Rattle.draid_slots.specs.States.{AscendBehind, name_of}
use Rattle.draid_stable.specs.declared.sealing.Head.{Head}

-- ---- blocks

-- the pointer of a block or a ticket of the metaslab: it lies within one parity group, and its length and stripes fit together
pub record IsPlaced (limits : Limits) (p : Pointer) : Type 0 where
  pub object_small : p.object < OBJECTS
  pub some_seq : 1 ≤ p.seq
  pub most_seq : p.seq < NUMBERS
  pub metaslab_is : p.metaslab ≡ limits.metaslab
  pub some_stripes : 1 ≤ p.stripes
  pub inside : p.first + p.stripes ≤ limits.stripes
  pub in_group : p.first % limits.height + p.stripes ≤ limits.height
  pub stripes_small : p.stripes < 2 ^ 32
  pub some_len : 1 ≤ p.len
  pub most_len : p.len ≤ LONGEST_BLOCK
  pub whole : p.stripes ≡ stripes_of limits p.len
  pub some_birth : 1 ≤ p.birth
  pub digest_len : length p.digest ≡ 32

-- blocks and tickets are placed so, apart from each other, and no more than a metaslab may have
pub record EntriesFit (limits : Limits) (entries : Entries) : Type 0 where
  pub placed : (first : ℕ) (e : Entry) → entry_at entries first ≡ Some e → IsPlaced limits e.pointer
  pub apart : (j k : ℕ) (a b : Entry) → entry_at entries j ≡ Some a → entry_at entries k ≡ Some b → j < k → j + a.pointer.stripes ≤ k
  pub few : count_of entries ≤ most_held limits.version

-- ---- arms

-- There are as many slots and spares as the record is to have. The leaves have numbers below the next, no spare is offline, and no name stands twice.
pub record ArmsFit (limits : Limits) (table : SlotTable) : Type 0 where
  pub children : table.geometry.spec.children ≡ limits.children
  pub spares : table.geometry.spec.spares ≡ limits.spares
  pub leaves : (at : ArmAt) (arm : Arm) → arm_at table at ≡ Some arm → arm.kind ≡ Leaf → arm.number < limits.next_leaf
  pub small : (at : ArmAt) (arm : Arm) → arm_at table at ≡ Some arm → arm.number < 2 ^ 64
  pub online : (at : ArmAt) (arm : Arm) → arm_at table at ≡ Some arm → arm.kind ≡ Spare → arm.offline ≡ false
  pub once : (at other : ArmAt) (a b : Arm) → arm_at table at ≡ Some a → arm_at table other ≡ Some b → name_of a ≡ name_of b → at ≡ other

-- the runs of each log are those of a record
pub record LogFits (told : ArmTold) : Type 0 where
  pub few : length told.1 < 2 ^ 32
  pub runs : AreRuns 1 told.1

abbrev pub LogsFit : List (List ArmTold) → Type 0
LogsFit slots = (slot : ℕ) → All LogFits (slice_index_or slots slot [])

-- a record tells the arms of the slots of a table
pub record TellsArms (table : SlotTable) (slots : List (List ArmTold)) : Type 0 where
  pub count : length slots ≡ length table.arms
  pub same : (slot : ℕ) → map (λ (told : ArmTold). told.0) (slice_index_or slots slot []) ≡ arms_of table slot

-- ---- the pass

-- A scrub runs. The targets are arms of the slots, ascending.
pub record PassFits (limits : Limits) (table : SlotTable) (p : PassTold) : Type 0 where
  pub runs_if_heal : least_running p.kind ≤ bit p.running
  pub some_max : 1 ≤ p.max
  pub most_max : p.max < NUMBERS
  pub place : p.«at» ≤ limits.stripes
  pub errors_small : p.errors < NUMBERS
  pub there : All (λ (place : ArmAt). place.arm < length (arms_of table place.slot)) p.targets
  pub ascending : AscendBehind None p.targets

-- ---- the whole

-- the ranges themselves
pub record LimitsFit (limits : Limits) : Type 0 where
  pub version_small : limits.version < 2 ^ 16
  pub metaslab_small : limits.metaslab < 2 ^ 16
  pub group_small : limits.group < NUMBERS
  pub children_few : limits.children ≤ 64
  pub stripes_small : limits.stripes ≤ NUMBERS

-- the ranges are those of the record of a group of a metaslab
pub record LimitsOf (limits : Limits) (head : Head) : Type 0 where
  pub version_is : head.version ≡ limits.version
  pub metaslab_is : head.metaslab ≡ limits.metaslab
  pub group_is : head.group ≡ limits.group

-- the tables of a metaslab fit the ranges
pub record TablesFit (limits : Limits) (entries : Entries) (table : SlotTable) (pass : Option Pass) (last : ℕ) : Type 0 where
  pub limits_fit : LimitsFit limits
  pub entries_fit : EntriesFit limits entries
  pub arms_fit : ArmsFit limits table
  pub pass_fits : IfSome (option_map told_pass pass) (PassFits limits table)
  pub last_small : last < NUMBERS

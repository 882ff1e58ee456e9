-- How the parts of a shard fit together: what each call needs and keeps.
use Rattle.std.specs.Prelude.{◌≤◌, ◌+◌, ℕ, ◌≡◌, ◌<◌, ◌⊎◌, zero, suc, Bool, true, false, Option, Some, None, IfSome, Contains, length, vec_capacity, if◌then◌else◌}
use Rattle.draid_names.specs.declared.numbers.TheConstants.{LAST_NUMBER, LONGEST_BLOCK, NUMBERS, OBJECTS}
use Rattle.draid_shard.specs.declared.shard.Shard.{Shard}
use Rattle.draid_names.specs.Numbers.{most_held}
use Rattle.draid_names.specs.declared.arm.Arm.{Arm}
use Rattle.draid_names.specs.declared.arm.ArmAt.{ArmAt}
use Rattle.draid_names.specs.declared.arm.ArmKind.TheVariants as kind
use Rattle.draid_names.specs.declared.pass_kind.PassKind.TheVariants.{Rebuild, Heal}
use Rattle.draid_names.specs.declared.pointer.Pointer.{Pointer}
use Rattle.draid_spec.specs.declared.layout.Geometry.{Geometry}
use Rattle.draid_spec.specs.Geometry.{metaslab_sectors, metaslab_stripes}
use Rattle.draid_block.specs.Blocks.{cut_of}
use Rattle.draid_block.specs.Columns.{stripes_of}
use Rattle.draid_rack.specs.Rack.{Shape}
use Rattle.draid_rack.specs.declared.Rack.{Ghosts}
use Rattle.draid_metaslab.specs.Spaces.{Stripes, is_free}
use Rattle.draid_machine.specs.declared.names.Stage.TheVariants.{Writing}
use Rattle.draid_pass.specs.declared.pass.Pass.{Pass}
use Rattle.draid_slots.specs.Changes.{IsOf}
use Rattle.draid_slots.specs.declared.slot.Detached.{Detached}
use Rattle.draid_slots.specs.Table.{IsThere, SlotTable, arm_at, is_leaving, is_logged, room_at}
use Rattle.draid_entries.specs.declared.entry.Entry.{Entry}
use Rattle.draid_entries.specs.declared.entries.Entries.{Entries}
use Rattle.draid_entries.specs.Entries.{count_of, entry_at, owed_by}
use Rattle.draid_entries.specs.History.{owed_of, reserved_of, stored_of}
use Rattle.draid_slots.specs.States.{HoldsPass, name_of}
use Rattle.draid_machine.specs.Names.{named}
use Rattle.draid_shard.specs.Loans.{HasFlushRoom, IsKept, owed_for_loan}
use Rattle.draid_shard.specs.Part.{IsPart, IsRun}
use Rattle.draid_shard.specs.States.{part_of}

-- ---- stripes

-- What a pointer says of its block: the object and the number of the write are in their ranges, its length and stripes fit together, and it was born in the next
-- group at most, whose number has 48 bits.
pub record IsBlock (geometry : Geometry) (open_group : ℕ) (pointer : Pointer) : Type 0 where
  pub object_small : pointer.object < OBJECTS
  pub some_seq : 1 ≤ pointer.seq
  pub most_seq : pointer.seq < NUMBERS
  pub digest_len : length pointer.digest ≡ 32
  pub some : 1 ≤ pointer.len
  pub short : pointer.len ≤ LONGEST_BLOCK
  pub stripes : pointer.stripes ≡ stripes_of (cut_of geometry) pointer.len
  pub born : pointer.birth ≤ open_group + 1
  pub low : pointer.birth ≤ LAST_NUMBER

-- the block of an entry lies on taken stripes within one parity group
pub record IsPlaced (geometry : Geometry) (space : Stripes) (open_group : ℕ) (pointer : Pointer) : Type 0 where
  pub run : IsRun geometry pointer.first pointer.stripes
  pub held : (x : ℕ) → pointer.first ≤ x → x < pointer.first + pointer.stripes → is_free space x ≡ false
  pub is_block : IsBlock geometry open_group pointer

-- the stripe is one of a block or a ticket
pub record HasStripe (entries : Entries) (x : ℕ) : Type 0 where
  pub first : ℕ
  pub entry : Entry
  pub there : entry_at entries first ≡ Some entry
  pub from : first ≤ x
  pub to : x < first + entry.pointer.stripes

-- The space is that of the layout: its free stripes are the metaslab's. Blocks and tickets stand on taken stripes and apart from each other, and no other stripe
-- is taken. For each of them the space holds a run.
pub record Tables (geometry : Geometry) (open_group : ℕ) (space : Stripes) (entries : Entries) : Type 0 where
  pub height : space.height ≡ geometry.props.height
  pub total : space.total ≡ metaslab_stripes geometry
  pub count : space.held ≡ count_of entries
  pub inside : (x : ℕ) → is_free space x ≡ true → x < metaslab_stripes geometry
  pub placed : (first : ℕ) (e : Entry) → entry_at entries first ≡ Some e → IsPlaced geometry space open_group e.pointer
  pub apart : (j k : ℕ) (a b : Entry) → entry_at entries j ≡ Some a → entry_at entries k ≡ Some b → j < k → j + a.pointer.stripes ≤ k
  pub covered : (x : ℕ) → x < metaslab_stripes geometry → is_free space x ≡ false → HasStripe entries x

-- tables of some metaslab fit together
pub record AreFitting (space : Stripes) (entries : Entries) : Type 0 where
  pub geometry : Geometry
  pub open_group : ℕ
  pub tables : Tables geometry open_group space entries
  pub low : metaslab_stripes geometry ≤ NUMBERS

-- ---- logs

-- the first group in which a ticket may have been born
abbrev pub oldest_open : ℕ → Option ℕ → ℕ
oldest_open open_group None = open_group
oldest_open open_group (Some t) = t

-- how many of so many groups from one on a log lacks
abbrev pub lacking : (ℕ → Bool) → ℕ → ℕ → ℕ
lacking log from zero = 0
lacking log from (suc n) = lacking log from n + (if log (from + n) then 0 else 1)

-- in how many groups blocks may be born now: the closing one, if there is one, the open one and the next
abbrev pub birth_groups : Option ℕ → ℕ
birth_groups None = 2
birth_groups (Some t) = 3

-- each log has room for so many groups from one on, and for so many more changes
abbrev pub LogsHaveRoom : SlotTable → ℕ → ℕ → ℕ → Type 0
LogsHaveRoom slots from groups more = (at : ArmAt) → IsThere slots at → lacking (is_logged slots at) from groups + more ≤ room_at slots at

-- ---- names

-- no name stands twice among the arms and those whose detachment isn't committed
pub record NamesOnce (slots : SlotTable) : Type 0 where
  pub arms : (at other : ArmAt) (a b : Arm) → arm_at slots at ≡ Some a → arm_at slots other ≡ Some b → name_of a ≡ name_of b → at ≡ other
  pub detached : (gone other : Detached) → Contains slots.detached gone → Contains slots.detached other → named gone.kind gone.number ≡ named other.kind other.number
      → gone ≡ other
  pub apart : (at : ArmAt) (a : Arm) (gone : Detached) → arm_at slots at ≡ Some a → Contains slots.detached gone → name_of a ≡ named gone.kind gone.number → ⊥

-- ---- devices

-- a leaf is an arm of a slot, or was one and its detachment isn't committed
abbrev pub IsLeaf : SlotTable → ℕ → Type 0
IsLeaf slots leaf = ((at : ArmAt) × (arm : Arm) × (arm_at slots at ≡ Some arm) × (arm.kind ≡ kind.Leaf) × (arm.number ≡ leaf)) ⊎ (is_leaving slots leaf ≡ true)

-- the rack has each of them, with all sectors of the metaslab
pub record HasLeaves (shape : Shape) (geometry : Geometry) (slots : SlotTable) : Type 0 where
  pub bytes : shape.bytes ≡ geometry.props.sector
  pub leaves : (leaf : ℕ) → IsLeaf slots leaf → shape.leaves leaf ≡ Some (metaslab_sectors geometry)

-- ---- events

abbrev pub owed_for_pass : Option Pass → ℕ
owed_for_pass None = 0
owed_for_pass (Some p) = elim p.kind as (λ k. ℕ) [ Rebuild ↦ if p.running then 1 else 2 | Heal ↦ 2 ]

abbrev pub is_rebuild : Option Pass → Bool
is_rebuild None = false
is_rebuild (Some p) = elim p.kind as (λ k. Bool) [ Rebuild ↦ true | Heal ↦ false ]

-- the end of a rebuild takes the groups in which blocks may be born out of its targets' logs, so that these lack them again
abbrev pub changes_for_end : Option Pass → Option ℕ → ℕ
changes_for_end pass closing = if is_rebuild pass then birth_groups closing else 0

abbrev pub owed_for_group : Option ℕ → Bool → ℕ
owed_for_group None sealed = 0
owed_for_group (Some t) sealed = if sealed then 1 else 2

-- ---- groups

-- the open group is behind the committed one, or behind the closing one, which is behind that
abbrev pub AreGroups : ℕ → Option ℕ → ℕ → Bool → Type 0
AreGroups open_group None committed sealed = (open_group ≡ committed + 1) × (sealed ≡ false)
AreGroups open_group (Some t) committed sealed = (open_group ≡ t + 1) × (t ≡ committed + 1)

-- a ticket isn't born before the groups that are open
abbrev pub TicketsAreNew : Entries → ℕ → Type 0
TicketsAreNew entries from = (first : ℕ) (e : Entry) (put missed : ℕ) → entry_at entries first ≡ Some e → e.stage ≡ Writing put missed → from ≤ e.pointer.birth

-- a group up to which a caller may have come: the one after the open one at most, whose number has 48 bits
pub record IsFloor {R A : Type 0} (shard : Shard R A) (floor : ℕ) : Type 0 where
  pub upto : floor ≤ shard.open_group + 1
  pub low : floor ≤ LAST_NUMBER

-- the pointers of all blocks and tickets name the metaslab
pub record AreHere (entries : Entries) (number : ℕ) : Type 0 where
  pub each : (first : ℕ) (e : Entry) → entry_at entries first ≡ Some e → e.pointer.metaslab ≡ number

-- What each call needs and keeps.
pub record Valid {R A : Type 0} (rack : Ghosts R) (shard : Shard R A) : Type 0 where
  pub part : IsPart (part_of shard)
  pub version : (shard.version ≡ 1) ⊎ (shard.version ≡ 2)
  -- the next seal is to have this version or a later one
  pub asked : (shard.version ≤ shard.asked) × (shard.asked ≤ 2)
  pub tables : Tables shard.geometry shard.open_group shard.space shard.entries
  -- it takes no block while a rebuild has it
  pub disabled : shard.space.disabled ≡ is_rebuild shard.pass
  pub few : count_of shard.entries ≤ most_held shard.version
  pub here : AreHere shard.entries shard.number
  pub slots : IsOf shard.slots shard.geometry shard.perms shard.number
  pub once : NamesOnce shard.slots
  pub pass : IfSome shard.pass (HoldsPass shard.slots shard.last_pass)
  -- the loan that counts, and no more loans than events
  pub kept : IfSome shard.kept (IsKept shard.geometry shard.pass)
  pub serial : shard.serial ≤ stored_of shard.history
  pub flushed : HasFlushRoom shard.geometry.spec.children shard.pass (vec_capacity shard.flushed)
  pub logs : LogsHaveRoom shard.slots (oldest_open shard.open_group shard.closing) (birth_groups shard.closing) (changes_for_end shard.pass shard.closing)
  pub leaves : HasLeaves (rack.shape shard.rack) shard.geometry shard.slots
  pub groups : AreGroups shard.open_group shard.closing shard.committed shard.sealed
  pub low : shard.open_group ≤ LAST_NUMBER
  pub tickets : TicketsAreNew shard.entries (oldest_open shard.open_group shard.closing)
  -- a group is sealed without an open ticket that was born up to it
  pub settled : shard.sealed ≡ true → TicketsAreNew shard.entries shard.open_group
  pub owed : owed_of shard.history
      ≡ owed_by shard.geometry.g shard.entries + owed_for_pass shard.pass + owed_for_loan shard.kept + owed_for_group shard.closing shard.sealed + reserved_of shard.history

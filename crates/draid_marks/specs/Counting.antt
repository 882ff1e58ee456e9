-- How many blocks and open writes of a metaslab's table pass a test.
use Rattle.std.specs.Prelude.{◌≡◌, ◌<◌, ◌≤◌, ℕ, true, false, List, Some, Contains, length}
use Rattle.draid_names.specs.declared.numbers.TheConstants.{NUMBERS}
use Rattle.draid_names.specs.declared.pointer.Pointer.{Pointer}
use Rattle.draid_layouts.specs.Layout.{slice_of}
use Rattle.draid_machine.specs.declared.names.Key.{Key}
use Rattle.draid_machine.specs.Names.{is_block, is_freed_by}
use Rattle.draid_machine.specs.State as machine
use Rattle.draid_entries.specs.declared.entry.Entry.{Entry}
use Rattle.draid_entries.specs.declared.entries.Entries.{Entries}
use Rattle.draid_entries.specs.Entries.{entry_at, held_in}
use Rattle.draid_entries.specs.Maps.{key_of}
use Rattle.draid_entries.specs.Thin.{Distinct}
use Rattle.draid_slots.specs.Reading.{IsNone, is_clean_in}
use Rattle.draid_slots.specs.Table.{SlotTable, arms_of}
use Rattle.draid_marks.specs.Layout.{layout_with}

-- each entry begins at one of the first so many stripes
abbrev pub BeginBelow : Entries → ℕ → Type 0
BeginBelow entries stripes = (first : ℕ) (e : Entry) → entry_at entries first ≡ Some e → first < stripes

-- a state has the blocks and open writes of the table
abbrev pub HasEntries : Entries → machine.Core → Type 0
HasEntries entries q = (key : Key) → q.held key ≡ held_in entries key

-- ---- counts

-- an entry of the table before a stripe, of this key, passes the test
pub record IsCounted (t : Entries) (test : Entry → Type 0) (stripe : ℕ) (key : Key) : Type 0 where
  pub e : Entry
  pub there : entry_at t e.pointer.first ≡ Some e
  pub key_is : key_of e.pointer ≡ key
  pub low : e.pointer.first < stripe
  pub passes : test e

-- so many of those that begin before a stripe pass the test
pub record CountsBelow (t : Entries) (test : Entry → Type 0) (stripe count : ℕ) : Type 0 where
  pub keys : List Key
  pub once : Distinct keys
  pub each : (key : Key) → Contains keys key → IsCounted t test stripe key
  pub all : (e : Entry) → entry_at t e.pointer.first ≡ Some e → e.pointer.first < stripe → test e → Contains keys (key_of e.pointer)
  pub many : count ≡ length keys

-- so many of all pass it: no stripe has a greater number
abbrev pub CountIs : Entries → (Entry → Type 0) → ℕ → Type 0
CountIs t test count = CountsBelow t test NUMBERS count

-- ---- tests

-- an open write that was begun up to a group
pub record IsOpenUpto (group : ℕ) (e : Entry) : Type 0 where
  pub ticket : is_block e.stage ≡ false
  pub upto : e.pointer.birth ≤ group

-- a block that was born in a group and isn't freed up to it
pub record IsBornIn (group : ℕ) (e : Entry) : Type 0 where
  pub block : is_block e.stage ≡ true
  pub born : e.pointer.birth ≡ group
  pub stays : is_freed_by group e.stage ≡ false

-- no arm of the column's slot both answers and is clean for the block
abbrev pub NoneClean : SlotTable → Pointer → ℕ → Type 0
NoneClean slots pointer c =
    let slot = (layout_with slots).slot_of pointer.first c in
    IsNone (is_clean_in slots slot (slice_of slots.geometry pointer.first) pointer.birth) (length (arms_of slots slot))

-- one of the first so many columns is so
abbrev pub LacksClean : SlotTable → Pointer → ℕ → Type 0
LacksClean slots pointer count = (c : ℕ) × (c < count) × NoneClean slots pointer c

-- a block of a group that has such a column
abbrev pub IsThinIn : SlotTable → ℕ → Entry → Type 0
IsThinIn slots group e = IsBornIn group e × LacksClean slots e.pointer slots.geometry.g

-- The record of a group, made from the tables of a metaslab before its devices are flushed, and settled afterwards.
use Rattle.std.specs.Prelude.{◌≡◌, ◌==◌, ◌+◌, ◌<◌, ◌^◌, ◌||◌, ◌&&◌, not, ℕ, Bool, true, false, List, [], Option, Some, All, IfSome, count_by, filter, length, slice_get, slice_index_or, option_map}
use Rattle.std.specs.declared.alloc.Global.{Global}
use Rattle.std.specs.declared.vec.Vec.{Vec}
use Rattle.draid_names.specs.declared.arm.Arm.{Arm}
use Rattle.draid_names.specs.declared.arm.ArmAt.{ArmAt}
use Rattle.draid_names.specs.declared.pass_kind.PassKind.{PassKind}
use Rattle.draid_names.specs.declared.pass_kind.PassKind.TheVariants.{Rebuild, Heal}
use Rattle.draid_names.specs.declared.pointer.Pointer.{Pointer}
use Rattle.draid_ranges.specs.Numbers.{Numbers, has}
use Rattle.draid_ranges.specs.Runs.{AreApart}
use Rattle.draid_pass.specs.declared.pass.Pass.{Pass}
use Rattle.draid_slots.specs.Marks.{is_marked}
use Rattle.draid_slots.specs.Table.{IsTable, SlotTable, arms_of, is_logged}
use Rattle.draid_machine.specs.declared.names.ArmName.{ArmName}
use Rattle.draid_machine.specs.declared.names.Key.{Key}
use Rattle.draid_machine.specs.After.{capped, seal_arm}
use Rattle.draid_machine.specs.State as machine
use Rattle.draid_entries.specs.declared.entries.Entries.{Entries}
use Rattle.draid_entries.specs.Entries.{held_in}
use Rattle.draid_entries.specs.Listed.{ListsBlocks}
use Rattle.draid_record.specs.Record.{ArmTold, PassTold, told_pass, told_slots}
use Rattle.draid_record.specs.declared.record.Record.{Record}
use Rattle.draid_stable.specs.declared.sealing.Head.{Head}
use Rattle.draid_stable.specs.Images.{SaysArms, name_of, order_by}
use Rattle.draid_slots.specs.States.{HasSlots, pass_in}

-- each element of a list is what it is to be at its place
abbrev pub AllAt : {X : Type 0} → (ℕ → X → Type 0) → List X → Type 0
AllAt {X} P xs = (k : ℕ) (d : X) → k < length xs → P k (slice_index_or xs k d)

-- ---- the arms of the tables

-- an arm with its log is that of a place. Its number has 64 bits, its log's runs are apart, and the log has room for one more group
pub record CopiesArm (table : SlotTable) (slot arm : ℕ) (pair : Arm × Numbers) : Type 0 where
  pub there : slice_get (arms_of table slot) arm ≡ Some pair.0
  pub log : (group : ℕ) → has pair.1 group ≡ is_logged table (record { slot = slot; arm = arm }) group
  pub small : pair.0.number < 2 ^ 64
  pub apart : AreApart pair.1.runs
  pub room : 0 < pair.1.room

-- a list has the arms of a slot
pub record CopiesSlot (table : SlotTable) (slot : ℕ) (list : List (Arm × Numbers)) : Type 0 where
  pub count : length list ≡ length (arms_of table slot)
  pub each : AllAt (CopiesArm table slot) list

-- the lists have the arms of all slots
pub record CopiesSlots (table : SlotTable) (lists : List (Vec (Arm × Numbers) Global)) : Type 0 where
  pub count : length lists ≡ length table.arms
  pub each : AllAt (λ slot (list : Vec (Arm × Numbers) Global). CopiesSlot table slot list.items) lists

-- the arms that a record tells are those of a state that aren't detached, in their order
pub record SaysCore (slots : List (List ArmTold)) (q : machine.Core) : Type 0 where
  pub arms : SaysArms slots (λ n. seal_arm (q.arm n))
  pub order : (slot : ℕ) → order_by slots slot ≡ q.order slot

-- ---- marks of arms

-- the arm that is told at a place
abbrev pub told_at : List (List ArmTold) → ℕ → ℕ → Option ArmTold
told_at slots slot arm = slice_get (slice_index_or slots slot []) arm

-- just those arms are marked for which a test holds
abbrev pub AreMarked : List (List ArmTold) → List (List Bool) → (ArmName → Bool) → Type 0
AreMarked slots marks test = (slot arm : ℕ) (told : ArmTold) → told_at slots slot arm ≡ Some told → is_marked marks slot arm ≡ test (name_of told)

-- there is an arm at each of the places
abbrev pub AreThere : List (List ArmTold) → List ArmAt → Type 0
AreThere slots = All (λ (place : ArmAt). place.arm < length (slice_index_or slots place.slot []))

-- ---- the tables of a metaslab

-- a state has the blocks, the arms and the pass of the tables
pub record AreTables (entries : Entries) (slots : SlotTable) (pass : Option Pass) (last : ℕ) (q : machine.Core) : Type 0 where
  pub held : (key : Key) → q.held key ≡ held_in entries key
  pub slots_are : HasSlots slots q
  pub pass_is : q.pass ≡ option_map (pass_in slots) pass
  pub last_is : q.last ≡ last

-- each log of a record has room for one more group, and the targets of its pass are there
abbrev pub HaveRoom : List (Vec (Arm × Numbers) Global) → Type 0
HaveRoom lists = All (λ (list : Vec (Arm × Numbers) Global). All (λ (pair : Arm × Numbers). 0 < pair.1.room) list.items) lists

-- ---- settling: the marked arms miss the group, and a pass loses them

-- an arm stays what it is, and its log gets a group if the arm is marked; its runs stay apart
pub record MarksArm (old new : Arm × Numbers) (marked : Bool) (group : ℕ) : Type 0 where
  pub arm : new.0 ≡ old.0
  pub apart : AreApart old.1.runs → AreApart new.1.runs
  pub log : (g : ℕ) → has new.1 g ≡ (has old.1 g || (marked && (g == group)))

pub record MarksSlot (old new : List (Arm × Numbers)) (marks : List Bool) (group : ℕ) : Type 0 where
  pub count : length new ≡ length old
  pub each : (k : ℕ) (d : Arm × Numbers) → k < length old → MarksArm (slice_index_or old k d) (slice_index_or new k d) (slice_index_or marks k false) group

pub record MarksSlots (old new : List (Vec (Arm × Numbers) Global)) (marks : List (List Bool)) (group : ℕ) : Type 0 where
  pub count : length new ≡ length old
  pub each : (k : ℕ) (d : Vec (Arm × Numbers) Global) → k < length old → MarksSlot (slice_index_or old k d).items (slice_index_or new k d).items (slice_index_or marks k []) group

-- those of the targets that aren't marked stay; in a rebuild each of the others counts an error
abbrev pub is_lost : List (List Bool) → ArmAt → Bool
is_lost marks place = is_marked marks place.slot place.arm

abbrev pub by_kind : PassKind → ℕ → ℕ
by_kind Rebuild lost = lost
by_kind Heal lost = 0

abbrev pub lose_marked : List (List Bool) → PassTold → PassTold
lose_marked marks p = record p { targets = filter (λ place. not (is_lost marks place)) p.targets; errors = capped (p.errors + by_kind p.kind (count_by (is_lost marks) p.targets)) }

-- the same of the pass that there may be, which keeps its number
pub record LosesTargets (marks : List (List Bool)) (old new : Option Pass) : Type 0 where
  pub told : option_map told_pass new ≡ option_map (lose_marked marks) (option_map told_pass old)
  pub numbers : option_map (λ (p : Pass). p.number) new ≡ option_map (λ (p : Pass). p.number) old

-- ---- the record of the tables

-- A record has the blocks of the tables that its group's image has, the arms of all slots, and the pass.
pub record IsMade (head : Head) (entries : Entries) (table : SlotTable) (pass : Option Pass) (last : ℕ) (it : Record) : Type 0 where
  pub version_is : it.version ≡ head.version
  pub metaslab_is : it.metaslab ≡ head.metaslab
  pub group_is : it.group ≡ head.group
  pub blocks_are : ListsBlocks entries head.group it.blocks.items
  pub slots_are : CopiesSlots table it.slots.items
  pub sound : IsTable table
  pub pass_is : option_map told_pass it.pass ≡ option_map told_pass pass
  pub last_is : it.last_pass ≡ last

-- whether a block was born in a group
abbrev pub was_born : ℕ → Pointer → Bool
was_born group b = b.birth == group

-- there is room for one more group in each log of a record, and the targets of its pass are arms of it
pub record IsReady (it : Record) : Type 0 where
  pub room : HaveRoom it.slots.items
  pub targets : IfSome it.pass (λ pass. AreThere (told_slots it.slots.items) pass.targets.items)

-- Where something was written, the marked arms got the group into their logs. The pass lost those among its targets. Nothing else changed.
pub record IsSettled (old new : Record) (marks : List (List Bool)) (wrote : Bool) : Type 0 where
  pub version_is : new.version ≡ old.version
  pub metaslab_is : new.metaslab ≡ old.metaslab
  pub group_is : new.group ≡ old.group
  pub blocks_are : new.blocks ≡ old.blocks
  pub last_is : new.last_pass ≡ old.last_pass
  pub written : wrote ≡ true → MarksSlots old.slots.items new.slots.items marks old.group
  pub not_written : wrote ≡ false → new.slots ≡ old.slots
  pub pass_is : option_map told_pass new.pass ≡ option_map (lose_marked marks) (option_map told_pass old.pass)

-- The loan of a scrub's block.
use Rattle.std.specs.Prelude.{◌≡◌, ◌<◌, ◌≤◌, ◌+◌, ◌↔◌, ℕ, IfSome, Option, None, Some, Vec, length, option_map, slice_get, slice_index_or}
use Rattle.std.specs.declared.alloc.Global.{Global}
use Rattle.draid_columns.specs.Columns.{RowsStand}
use Rattle.draid_machine.specs.After.{capped}
use Rattle.draid_machine.specs.declared.event.Event.TheVariants.{Lend}
use Rattle.draid_machine.specs.declared.names.ArmName.{ArmName}
use Rattle.draid_machine.specs.declared.names.Key.{Key}
use Rattle.draid_machine.specs.declared.names.Held.{Held}
use Rattle.draid_machine.specs.State as machine
use Rattle.draid_machine.specs.Step.{IsNext}
use Rattle.draid_entries.specs.Entries.{entry_at}
use Rattle.draid_entries.specs.Maps.{held_at, key_of}
use Rattle.draid_entries.specs.declared.entry.Entry.{Entry}
use Rattle.draid_pass.specs.declared.pass.Pass.{Pass}
use Rattle.draid_rack.specs.Rack.{OnTold, Told}
use Rattle.draid_rack.specs.declared.Rack.{Ghosts}
use Rattle.draid_segments.specs.Segments.{Pieces}
use Rattle.draid_slots.specs.Table.{SlotTable}
use Rattle.draid_shard.specs.Calls.{ActsOn, CountsFailed}
use Rattle.draid_shard.specs.Looks.{Reaches}
use Rattle.draid_shard.specs.Part.{Part}
use Rattle.draid_shard.specs.Rows.{leaf_on, name_on, rows_on}
use Rattle.draid_shard.specs.States.{Does, IsIn, part_of}
use Rattle.draid_shard.specs.declared.loan.KeptLoan.TheVariants.{Block}
use Rattle.draid_shard.specs.declared.loan.LentBlock.{LentBlock}
use Rattle.draid_shard.specs.declared.shard.Shard.{Shard}
use Rattle.draid_shard.specs.Scrubs.{IsBlockHere}
use Rattle.draid_shard.specs.Spots.{rows_at}

-- of the pass there is a block left to lend, in each state for which the shard stands
pub record IsLeftFor (w : machine.State) : Type 0 where
  pub p : machine.Pass
  pub key : Key
  pub h : Held
  pub stripe : ℕ
  pub pass : w.core.pass ≡ Some p
  pub next : IsNext w.core p key h stripe

abbrev pub HasBlockLeft : {R A : Type 0} → Shard R A → Type 0
HasBlockLeft shard = (w : machine.State) → IsIn shard w → IsLeftFor w

-- an entry has the first stripe that a block has which was born up to a group, where the stripe is one or behind it
pub record IsNextAt (q : machine.Core) (from upto : ℕ) (entry : Entry) (stripe : ℕ) : Type 0 where
  pub reaches : Reaches q from upto (key_of entry.pointer) (held_at entry) stripe
  pub first : (k : Key) (h : Held) (x : ℕ) → Reaches q from upto k h x → stripe ≤ x

-- it has the first stripe that the pass may lend
pub record IsUnit {R A : Type 0} (shard : Shard R A) (entry : Entry) (stripe : ℕ) : Type 0 where
  pub there : entry_at shard.entries entry.pointer.first ≡ Some entry
  pub next : (w : machine.State) → IsIn shard w → (p : Pass) → shard.pass ≡ Some p → IsNextAt w.core p.at p.max entry stripe

-- where a pass stands, and the last group that it makes good
abbrev pub IsPlaceOf : Option Pass → ℕ → ℕ → Type 0
IsPlaceOf None at max = Unit {0}
IsPlaceOf (Some pass) at max = (at ≡ pass.at) × (max ≡ pass.max)

-- ---- the block that is lent

-- The reading of a column that counts is what its arm told, while the rack told this; where no arm counts there is none.
pub record ReadsLent (part : Part) (slots : SlotTable) (told : Option Told) (lent : LentBlock) : Type 0 where
  pub none : (c : ℕ) → c < part.geometry.g → (slice_get lent.columns.items c ≡ Some None) ↔ (slice_index_or lent.chosen.items c None ≡ None)
  pub reads : (c : ℕ) (n : ArmName) (bytes : Vec ℕ Global) → c < part.geometry.g → slice_index_or lent.chosen.items c None ≡ Some n → slice_get lent.columns.items c ≡ Some (Some bytes)
      → (k : ℕ) × (leaf : ℕ) × (name_on slots (rows_at part lent.pointer c) k ≡ Some n) × (leaf_on slots (rows_at part lent.pointer c) k ≡ Some leaf)
      × OnTold told (λ x. RowsStand (rows_on (rows_at part lent.pointer c) leaf) x.reads bytes.items lent.pointer.stripes)

-- the pass counts so many errors more
abbrev pub counted : ℕ → Pass → Pass
counted more pass = record pass { errors = capped (pass.errors + more) }

-- A block was lent: the event, the leaves on which calls failed, each an error of the pass, and what is kept.
pub record LendsBlock {R A : Type 0} (rack : Ghosts R) (old new : Shard R A) : Type 0 where
  pub failed : Vec ℕ Global
  pub does : Does old new (Lend failed)
  pub acts : (pieces : Pieces) → ActsOn rack old new (Lend failed) pieces
  pub counts : CountsFailed failed.items (rack.faults old.rack) (rack.faults new.rack)
  pub pass : new.pass ≡ option_map (counted (length failed.items)) old.pass
  pub lent : LentBlock
  pub lent_is : new.kept ≡ Some (Block lent)
  pub here : IsBlockHere new.entries lent
  pub serial : lent.serial ≡ old.serial + 1
  pub behind : IfSome old.pass (λ pass. pass.at < lent.pointer.first + lent.pointer.stripes)
  pub unsolved : lent.restored ≡ None
  pub reads : ReadsLent (part_of old) old.slots (rack.told old.rack) lent

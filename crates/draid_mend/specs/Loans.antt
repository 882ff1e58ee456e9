-- The loan of a rebuild's stripe.
use Rattle.std.specs.Prelude.{◌≡◌, ◌<◌, ◌≤◌, ◌+◌, ◌*◌, ⊤, ℕ, true, [], IfSome, List, Option, None, Some, Vec, option_map, length, slice_get, slice_index_or, vec_capacity}
use Rattle.std.specs.declared.alloc.Global.{Global}
use Rattle.draid_names.specs.declared.arm.Arm.{Arm}
use Rattle.draid_names.specs.declared.pass_kind.PassKind.TheVariants.{Rebuild}
use Rattle.draid_names.specs.declared.pointer.Pointer.{Pointer}
use Rattle.draid_machine.specs.declared.event.Event.TheVariants.{Lend}
use Rattle.draid_machine.specs.State as machine
use Rattle.draid_entries.specs.declared.entry.Entry.{Entry}
use Rattle.draid_spec.specs.declared.layout.Geometry.{Geometry}
use Rattle.draid_shard.specs.Looks.{IsNextTaken, IsOver}
use Rattle.draid_mend.specs.declared.rooms.LendRoom.{LendRoom}
use Rattle.draid_pass.specs.declared.pass.Pass.{Pass}
use Rattle.draid_rack.specs.Rack.{Told}
use Rattle.draid_rack.specs.declared.Rack.{Ghosts}
use Rattle.draid_slots.specs.States.{name_of}
use Rattle.draid_slots.specs.Table.{SlotTable, arm_at}
use Rattle.draid_segments.specs.Segments.{Pieces}
use Rattle.draid_shard.specs.Calls.{ActsOn, CountsFailed}
use Rattle.draid_shard.specs.Part.{Part, layout_in}
use Rattle.draid_shard.specs.States.{Does, IsIn, part_of}
use Rattle.draid_shard.specs.declared.loan.KeptLoan.TheVariants.{Stripe}
use Rattle.draid_shard.specs.declared.loan.LentStripe.{LentStripe}
use Rattle.draid_shard.specs.declared.loan.Source.{Source}
use Rattle.draid_shard.specs.declared.shard.Shard.{Shard}
use Rattle.draid_mend.specs.Reading.{HasRoomFor, ReadsStripe}
use Rattle.draid_mend.specs.declared.reading.Taken.{Taken}
use Rattle.draid_mend.specs.declared.reading.Taken.TheVariants.{Nowhere, Failed, From}

-- a rebuild that runs
pub record IsRunningRebuild (pass : Pass) : Type 0 where
  pub rebuild : pass.kind ≡ Rebuild
  pub running : pass.running ≡ true

-- an entry has the stripe, which is the first taken one where the pass stands or behind it
pub record IsUnit {R A : Type 0} (shard : Shard R A) (entry : Entry) (stripe : ℕ) : Type 0 where
  pub over : IsOver shard.entries stripe entry
  pub next : (w : machine.State) → IsIn shard w → (p : Pass) → shard.pass ≡ Some p → IsNextTaken w.core p.at stripe

-- an entry has such a stripe
pub record HasUnit {R A : Type 0} (shard : Shard R A) : Type 0 where
  pub entry : Entry
  pub stripe : ℕ
  pub is : IsUnit shard entry stripe

-- where a pass stands, and how many targets it has
abbrev pub IsPlaceOf : Option Pass → ℕ → Type 0
IsPlaceOf None place = ⊤
IsPlaceOf (Some pass) place = place ≡ pass.at

abbrev pub IsTargetsOf : Option Pass → ℕ → Type 0
IsTargetsOf None count = ⊤
IsTargetsOf (Some pass) count = count ≡ length pass.targets.items

-- room for a stripe, and for its landing on so many targets
pub record HasLendRoom (geometry : Geometry) (targets : ℕ) (room : LendRoom) : Type 0 where
  pub lent : HasRoomFor geometry room.lent
  pub empty : (room.lent.chosen.items ≡ []) × (room.lent.failed.items ≡ [])
  pub failed : geometry.g * targets ≤ vec_capacity room.failed

-- ---- from where the columns were taken

-- one stripe of a block
abbrev pub unit_at : Pointer → ℕ → Pointer
unit_at pointer stripe = record pointer { first = stripe; stripes = 1 }

-- the arm of a slot from which a column was taken, with its leaf
abbrev pub source_in : SlotTable → ℕ → Option Taken → Option Source
source_in slots slot None = None
source_in slots slot (Some Nowhere) = None
source_in slots slot (Some (Failed leaf)) = None
source_in slots slot (Some (From arm leaf)) = option_map (λ (a : Arm). record { arm = name_of a; leaf = leaf }) (arm_at slots (record { slot = slot; arm = arm }))

-- so the first so many columns of a stripe
pub record NamesSources (part : Part) (slots : SlotTable) (pointer : Pointer) (taken : List Taken) (count : ℕ) (chosen : List (Option Source)) : Type 0 where
  pub many : length chosen ≡ count
  pub each : (c : ℕ) → c < count → slice_index_or chosen c None ≡ source_in slots ((layout_in part).slot_of pointer.first c) (slice_get taken c)

-- the first so many columns were read, each from its source, and so named
pub record ReadsNamed (part : Part) (slots : SlotTable) (pointer : Pointer) (count : ℕ) (told : Option Told) (columns : List (List ℕ)) (failed : List ℕ) (chosen : List (Option Source)) : Type 0 where
  pub taken : List Taken
  pub reads : ReadsStripe part slots pointer count told columns taken failed
  pub names : NamesSources part slots pointer taken count chosen

-- ---- what is kept of a stripe

-- each of its columns was read from its source, where it has one whose call didn't fail, while the rack told this
pub record IsReadFrom (part : Part) (slots : SlotTable) (told : Option Told) (kept : LentStripe) : Type 0 where
  pub taken : List Taken
  pub faults : List ℕ
  pub reads : ReadsStripe part slots (unit_at kept.pointer kept.stripe) part.geometry.g told kept.columns.columns taken faults
  pub chosen : NamesSources part slots (unit_at kept.pointer kept.stripe) taken part.geometry.g kept.chosen.items

-- A stripe was lent: the event, the leaves on which calls failed, and what is kept.
pub record LendsUnit {R A : Type 0} (rack : Ghosts R) (old new : Shard R A) : Type 0 where
  pub failed : Vec ℕ Global
  pub does : Does old new (Lend failed)
  pub acts : (pieces : Pieces) → ActsOn rack old new (Lend failed) pieces
  pub counts : CountsFailed failed.items (rack.faults old.rack) (rack.faults new.rack)
  pub kept : LentStripe
  pub kept_is : new.kept ≡ Some (Stripe kept)
  pub serial : kept.serial ≡ old.serial + 1
  pub behind : IfSome old.pass (λ pass. pass.at ≤ kept.stripe)
  pub read : IsReadFrom (part_of old) old.slots (rack.told old.rack) kept

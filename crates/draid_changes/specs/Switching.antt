-- What the switching of a leaf does to one metaslab in a hold, and to all of them in rounds.
use Rattle.std.specs.Prelude.{◌≡◌, ◌<◌, ◌⊎◌, ◌↔◌, ⊤, ℕ, Bool, true, false, Option, Some, None, Result, Ok, Err, IsTrue, OnErr, OnOk, max}
use Rattle.draid_area.specs.declared.Area as areas
use Rattle.draid_disks.specs.Disks.{HasArmRoom, IsLeafArm, IsReservedFor, SamePass}
use Rattle.draid_entries.specs.History.{limit_in, reserved_of}
use Rattle.draid_entries.specs.declared.history.ReserveFault.{ReserveFault}
use Rattle.draid_entries.specs.declared.history.ReserveFault.TheVariants as reserve
use Rattle.draid_names.specs.declared.refusal.SlotFault.TheVariants as slot
use Rattle.draid_rack.specs.declared.Rack as racks
use Rattle.draid_shard.specs.Alike.{HaveSameArms}
use Rattle.draid_shard.specs.Calls.{SameKit}
use Rattle.draid_shard.specs.Changes.{KeepsBlocks}
use Rattle.draid_shard.specs.Fits.{Valid}
use Rattle.draid_shard.specs.States.{DoesNone}
use Rattle.draid_shard.specs.declared.shard.Shard.{Shard}
use Rattle.draid_slots.specs.Changes.{Keeps}
use Rattle.draid_slots.specs.Table.{IsTable}
use Rattle.draid_uber.specs.declared.uber.Uber.{Uber}
use Rattle.draid_pool.specs.Grouping.{FinishesIn}
use Rattle.draid_pool.specs.Rounds.{EachIs, HeldEach, HeldOnce, StoppedBy}
use Rattle.draid_pool.specs.declared.fault.SyncFault.{SyncFault}
use Rattle.draid_changes.specs.Answers.{IsFor}
use Rattle.draid_changes.specs.Behind.{HasLeaf, IsSwitched}
use Rattle.draid_changes.specs.Walks.{Switches}
use Rattle.draid_changes.specs.declared.fault.ArmFault.{ArmFault}
use Rattle.draid_changes.specs.declared.fault.ArmFault.TheVariants as fault

-- ---- one metaslab

-- a leaf is an arm of it or isn't, and nothing changed
pub record SeesLeaf {R A : Type 0} (leaf : ℕ) (there : Bool) (old new : Shard R A) : Type 0 where
  pub same : new ≡ old
  pub arm : IsTrue there ↔ IsLeafArm old.slots leaf
  pub sound : IsTable old.slots

-- One event is reserved in it, with room for a change of arms, or why not. All else is as it was, but for the room of a pass's list of targets.
pub record ReservesOne {R A : Type 0} (rack : racks.Ghosts R) (old : Shard R A) (result : Result Unit ReserveFault) (new : Shard R A) : Type 0 where
  pub valid : Valid rack new
  pub kit : SameKit old new
  pub none : DoesNone old new
  pub keeps : KeepsBlocks old new
  pub slots : Keeps old.slots new.slots
  pub sound : IsTable new.slots
  pub pass : SamePass old.pass new.pass
  pub last : new.last_pass ≡ old.last_pass
  pub room : OnOk result (HasArmRoom new)
  pub answer : IsReservedFor old.history 1 result
  pub reserved : OnOk result (reserved_of new.history ≡ max 1 (reserved_of old.history))
  pub same : OnErr result (reserved_of new.history ≡ reserved_of old.history)
  pub limit : limit_in new.history ≡ limit_in old.history

-- an event is reserved in a metaslab
pub record HasReserved {R A : Type 0} (rack : racks.Ghosts R) (shard : Shard R A) : Type 0 where
  pub valid : Valid rack shard
  pub reserved : 0 < reserved_of shard.history

-- ---- all of them

-- each two have the same arms, as they were left
abbrev pub AllSameArms : {R A : Type 0} → (ℕ → Option (Shard R A)) → Type 0
AllSameArms {R} {A} last = (m n : ℕ) (x y : Shard R A) → last m ≡ Some x → last n ≡ Some y → HaveSameArms x.slots y.slots

-- By the answer of a call that takes a leaf offline or online: each arm of that leaf is so in each of the first so many, as they were left, or it is an arm in none of them.
abbrev pub LeafIsIn : {R A : Type 0} → ℕ → ℕ → Bool → Result Unit ArmFault → (ℕ → Option (Shard R A)) → Type 0
LeafIsIn {R} {A} count leaf offline (Ok done) last = EachIs count (λ (shard : Shard R A). IsSwitched shard.slots leaf offline) last
LeafIsIn {R} {A} count leaf offline (Err (fault.Slot why)) last = (why ≡ slot.NoSuch) × EachIs count (λ (shard : Shard R A). HasLeaf shard.slots leaf → ⊥) last
LeafIsIn count leaf offline (Err fault.Worn) last = ⊤
LeafIsIn count leaf offline (Err fault.Shelf) last = ⊤
LeafIsIn count leaf offline (Err fault.NoMemory) last = ⊤

-- ---- rounds

-- the fault of a change for which no event could be reserved
abbrev pub IsShortOf : ReserveFault → ArmFault → Type 0
IsShortOf (reserve.Worn events) why = why ≡ fault.Worn
IsShortOf reserve.NoMemory why = why ≡ fault.NoMemory

module _ {R A S : Type 0} (rack : racks.Ghosts R) (area : areas.Ghosts A) (last : S → ℕ → Option (Shard R A)) (went : S → ℕ → Shard R A → Shard R A → S → Type 0) (shared : Bool) (owns : ℕ → Bool) (count : ℕ) where
  -- an event is reserved in each, or a metaslab stopped it
  abbrev pub ReservesEach : S → Result Unit ReserveFault → S → Type 0
  ReservesEach a (Ok done) b = HeldEach rack area last went shared owns (λ none x y. ReservesOne rack x (Ok tt) y) count a 0 b
  ReservesEach a (Err why) b = StoppedBy rack area last went shared owns (λ none x y. ReservesOne rack x (Ok tt) y) (λ x y. ReservesOne rack x (Err why) y) count a b

  module _ (leaf : ℕ) (offline : Bool) where
    -- a leaf goes offline in each, or comes back
    abbrev pub SwitchesEach : S → S → Type 0
    SwitchesEach a b = HeldEach rack area last went shared owns (λ none x y. Switches rack leaf offline x y) count a 0 b

    -- It did so in each: it is an arm of the first, and an event was reserved in each before. Or it is no arm of the first; or no event could be reserved in one of them, and
    -- it went so in none.
    abbrev pub SwitchesAll : S → Result Unit ArmFault → S → Type 0
    SwitchesAll a (Ok done) b =
        (mid : S) × (late : S) × HeldOnce rack area last went shared owns (SeesLeaf leaf true) a 0 mid × ReservesEach mid (Ok tt) late × SwitchesEach late b
    SwitchesAll a (Err why) b =
        (HeldOnce rack area last went shared owns (SeesLeaf leaf false) a 0 b × (why ≡ fault.Slot slot.NoSuch))
        ⊎ ((mid : S) × (short : ReserveFault) × HeldOnce rack area last went shared owns (SeesLeaf leaf true) a 0 mid × ReservesEach mid (Err short) b × IsShortOf short why)

    -- A group that was closing is committed, if there was one, and the leaf goes offline in all or comes back; or it was stopped before, and went so in none. Or open writes in a
    -- metaslab are in the way.
    abbrev pub SwitchesIn : S → Uber A → Option (Result Unit ArmFault) → S → Uber A → Type 0
    SwitchesIn a u (Some (Ok done)) b v = (mid : S) × FinishesIn rack area last went shared owns count a u (Some (Ok tt)) mid v × SwitchesAll mid (Ok tt) b
    SwitchesIn a u (Some (Err why)) b v =
        ((stop : SyncFault) × FinishesIn rack area last went shared owns count a u (Some (Err stop)) b v × IsFor stop why)
        ⊎ ((mid : S) × FinishesIn rack area last went shared owns count a u (Some (Ok tt)) mid v × SwitchesAll mid (Err why) b)
    SwitchesIn a u None b v = FinishesIn rack area last went shared owns count a u None b v

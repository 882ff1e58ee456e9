-- A command of one thread among several, which is tried again until no other is in its way.
use Rattle.std.specs.Prelude.{◌≡◌, ◌==◌, ℕ, Bool, List, Option, Some, None, Result, Ok, Err, if◌then◌else◌}
use Rattle.draid_names.specs.declared.pointer.Pointer.{Pointer}
use Rattle.draid_names.specs.declared.refusal.WriteFault.{WriteFault}
use Rattle.draid_names.specs.declared.room.Room.{Room}
use Rattle.draid_rack.specs.declared.Rack as racks
use Rattle.draid_area.specs.declared.Area as areas
use Rattle.draid_objects.specs.Changes.{Write, write_of}
use Rattle.draid_shard.specs.declared.shard.Shard.{Shard}
use Rattle.draid_session.specs.Holds.{Hold}
use Rattle.draid_session.specs.Lanes.{LeavesLooks}
use Rattle.draid_session.specs.State.{State, Store}
use Rattle.draid_session.specs.Writes.{FreesBlock}
use Rattle.draid_pool.specs.Pointers.{FitsPointer}
use Rattle.draid_pool.specs.Threads.{Knows, LeadsBy}
use Rattle.draid_store.specs.Answers.{WriteDoes}
use Rattle.draid_store.specs.Open.{KnowsReplaced}
use Rattle.draid_store.specs.Storing.{WriteAwaits}

-- this is done by the holds but for looks, which are left out of them
abbrev pub LooksBut : (List Hold → Store → Type 0) → List Hold → Store → Type 0
LooksBut does holds store = (left : List Hold) × LeavesLooks holds left × does left store

-- the object has a new pointer, which the bytes fit, or all is as it was
abbrev pub WriteSetsTable : ℕ → List ℕ → (table now : ℕ → Option Pointer) → Result Unit WriteFault → Type 0
WriteSetsTable object bytes table now (Ok done) = (pointer : Pointer) × FitsPointer pointer bytes × ((other : ℕ) → now other ≡ (if object == other then Some pointer else table other))
WriteSetsTable object bytes table now (Err why) = (other : ℕ) → now other ≡ table other

-- the block of a write is freed in this group, which is the thread's floor then
abbrev pub FreesRest : State → Write → (floor group : ℕ) → List Hold → Store → Type 0
FreesRest x we floor group holds store = FreesBlock we floor group holds × (store ≡ record x.store { floor = group })

-- A block was written, after it was tried so often as had to be: it is a whole write; or one whose earlier block is to be freed; or it was refused.
module _ {R A S : Type 0} (rack : racks.Ghosts R) (area : areas.Ghosts A) (went : S → ℕ → Shard R A → Shard R A → S → Type 0) (shared : Bool) (owns : ℕ → Bool) (now : ℕ → Option (Shard R A)) (a b : S) (chosen : List Room → Option ℕ → Type 0) (object : ℕ) (bytes : List ℕ)
    (then_table : ℕ → Option Pointer) (then_seq then_floor : ℕ) (x : State) where
  abbrev pub StoresThrough : Result (Option Pointer) WriteFault → Type 0
  StoresThrough (Ok None) = LeadsBy rack area went shared a b x (LooksBut (WriteDoes x chosen object bytes (Ok tt))) (Knows rack area owns now then_table then_seq then_floor)
  StoresThrough (Ok (Some earlier)) = LeadsBy rack area went shared a b x (LooksBut (WriteAwaits x chosen object bytes None earlier)) (KnowsReplaced rack area owns now then_table then_seq then_floor (Some earlier) (write_of x.store.changes object))
  StoresThrough (Err why) = LeadsBy rack area went shared a b x (LooksBut (WriteDoes x chosen object bytes (Err why))) (Knows rack area owns now then_table then_seq then_floor)

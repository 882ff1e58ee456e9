-- A block of an object is stored: a begin, its columns and its end.
use Rattle.std.specs.Prelude.{◌≡◌, ◌+◌, ◌≤◌, ◌∷◌, ◌++◌, ◌==◌, ⊤, ℕ, Bool, List, [], Option, Some, None, Result, Ok, Err, if◌then◌else◌, true}
use Rattle.draid_names.specs.declared.pointer.Pointer.{Pointer}
use Rattle.draid_names.specs.declared.refusal.WriteFault.{WriteFault}
use Rattle.draid_names.specs.declared.refusal.WriteFault.TheVariants as fault
use Rattle.draid_names.specs.declared.room.Room.{Room}
use Rattle.draid_blocks.specs.declared.fault.BeginFault.TheVariants as begin
use Rattle.draid_rack.specs.declared.Rack as racks
use Rattle.draid_area.specs.declared.Area as areas
use Rattle.draid_block.specs.Blocks.{BlockValue}
use Rattle.draid_objects.specs.Changes.{Wrote, write_of}
use Rattle.draid_session.specs.Holds.{Hold}
use Rattle.draid_session.specs.Looks.{OnlyLooks}
use Rattle.draid_session.specs.State.{State, Store}
use Rattle.draid_session.specs.Writes.{Tries, WritesBlock}
use Rattle.draid_store.specs.Answers.{WriteDoes, WriteInDoes}
use Rattle.draid_store.specs.Freeing.{IsApart}
use Rattle.draid_store.specs.Open.{KnowsReplaced}
use Rattle.draid_store.specs.Putting.{RefusesAt}
use Rattle.draid_store.specs.declared.fault.StoreFault.{StoreFault}
use Rattle.draid_store.specs.declared.fault.StoreFault.TheVariants.{Missed, Refused}
use Rattle.draid_pool.specs.Pointers.{FitsPointer}
use Rattle.draid_pool.specs.Threads.{HasPointer, Knows, LeadsBy}
use Rattle.draid_shard.specs.declared.shard.Shard.{Shard}
use Rattle.draid_checkpoint.specs.Check.{holds_birth}
use Rattle.draid_session.specs.Points.{IsPointOf}

-- the checkpoint of this group keeps the block of a pointer
abbrev pub HasKept : Option ℕ → Pointer → Type 0
HasKept point p = holds_birth point p.birth ≡ true

-- the store as the block has come
abbrev pub store_with : Store → ℕ → ℕ → ℕ → List ℕ → Store
store_with store object m birth bytes = record { changes = Wrote (record { object = object; seq = store.seq + 1; metaslab = m; birth = birth; bytes = bytes }) ∷ store.changes; marks = store.marks; seq = store.seq + 1; floor = birth }

-- a block of these bytes was written in metaslab m, and the one that the object had is live yet
pub record StoresIn (x : State) (m object birth : ℕ) (bytes : List ℕ) (holds : List Hold) (store : Store) : Type 0 where
  pub columns : ℕ
  pub writes : WritesBlock x.geometry object (x.store.seq + 1) bytes x.store.floor m birth columns holds
  pub few : columns ≤ x.geometry.spec.parity
  pub made : store ≡ store_with x.store object m birth bytes

module _ {R A S : Type 0} (rack : racks.Ghosts R) (area : areas.Ghosts A) (went : S → ℕ → Shard R A → Shard R A → S → Type 0) (shared : Bool) (owns now_owns : ℕ → Bool) (last now : ℕ → Option (Shard R A)) (a b : S) (m columns object : ℕ)
    (table then_table : ℕ → Option Pointer) (seq floor then_seq then_floor : ℕ) (block : BlockValue) where
  -- It is to be tried again; or the block was stored, and the pointer that the object had is to be freed; or no write was begun; or too many columns landed nowhere
  abbrev pub StoreSays : Option (Result (Option Pointer) StoreFault) → Type 0
  StoreSays None = (x : State) → Knows rack area owns last table seq floor x
      → LeadsBy rack area went shared a b x (λ holds store. (store ≡ x.store) × OnlyLooks holds) (Knows rack area now_owns now then_table then_seq then_floor)
  StoreSays (Some (Ok earlier)) = (x : State) → x.geometry.g ≡ columns → Knows rack area owns last table seq floor x
      → LeadsBy rack area went shared a b x (StoresIn x m object then_floor block.bytes) (KnowsReplaced rack area now_owns now then_table then_seq then_floor earlier (write_of x.store.changes object))
  StoreSays (Some (Err (Refused why))) = (x : State) → Knows rack area owns last table seq floor x
      → LeadsBy rack area went shared a b x (λ holds store. (store ≡ x.store) × OnlyLooks holds) (Knows rack area now_owns now then_table then_seq then_floor)
  StoreSays (Some (Err (Missed missed))) = (x : State) → x.geometry.g ≡ columns → Knows rack area owns last table seq floor x
      → LeadsBy rack area went shared a b x (WriteInDoes x m object block.bytes (Err (fault.Missed missed.columns))) (Knows rack area now_owns now then_table then_seq then_floor)

-- the block was stored, and the one before it isn't freed or dropped yet; where the checkpoint keeps that, nothing was looked at
pub record AwaitsIn (x : State) (m object birth : ℕ) (bytes : List ℕ) (point : Option ℕ) (earlier : Pointer) (holds : List Hold) (store : Store) : Type 0 where
  pub front : List Hold
  pub back : List Hold
  pub are : holds ≡ front ++ back
  pub looks : OnlyLooks back
  pub kept : HasKept point earlier → back ≡ []
  pub stores : StoresIn x m object birth bytes front store

module _ {R A S : Type 0} (rack : racks.Ghosts R) (area : areas.Ghosts A) (went : S → ℕ → Shard R A → Shard R A → S → Type 0) (shared : Bool) (owns now_owns : ℕ → Bool) (last now : ℕ → Option (Shard R A)) (a b : S) (m columns : ℕ) (point : Option ℕ) (object : ℕ)
    (table then_table : ℕ → Option Pointer) (seq floor then_seq then_floor : ℕ) (block : BlockValue) where
  -- It is to be tried again; or a whole write; or one whose earlier block is to be freed or dropped; or no write was begun; or too many columns landed nowhere.
  abbrev pub WriteSays : Option (Result (Option Pointer) StoreFault) → Type 0
  WriteSays None = (x : State) → Knows rack area owns last table seq floor x
      → LeadsBy rack area went shared a b x (λ holds store. (store ≡ x.store) × OnlyLooks holds) (Knows rack area now_owns now then_table then_seq then_floor)
  WriteSays (Some (Ok None)) = (x : State) → x.geometry.g ≡ columns → IsPointOf x.store.marks point → Knows rack area owns last table seq floor x
      → LeadsBy rack area went shared a b x (λ holds store. WriteInDoes x m object block.bytes (Ok tt) holds store × (store.marks ≡ x.store.marks)) (Knows rack area now_owns now then_table then_seq then_floor)
  WriteSays (Some (Ok (Some earlier))) = (x : State) → x.geometry.g ≡ columns → IsPointOf x.store.marks point → Knows rack area owns last table seq floor x
      → LeadsBy rack area went shared a b x (AwaitsIn x m object then_floor block.bytes point earlier) (KnowsReplaced rack area now_owns now then_table then_seq then_floor (Some earlier) (write_of x.store.changes object))
  WriteSays (Some (Err (Refused why))) = (x : State) → Knows rack area owns last table seq floor x
      → LeadsBy rack area went shared a b x (λ holds store. (store ≡ x.store) × OnlyLooks holds) (Knows rack area now_owns now then_table then_seq then_floor)
  WriteSays (Some (Err (Missed missed))) = (x : State) → x.geometry.g ≡ columns → Knows rack area owns last table seq floor x
      → LeadsBy rack area went shared a b x (WriteInDoes x m object block.bytes (Err (fault.Missed missed.columns))) (Knows rack area now_owns now then_table then_seq then_floor)

-- ---- whatever is known of the devices

-- the object has a new pointer, which the bytes fit, or all is as it was
abbrev pub StoreSetsTable : {E : Type 0} → ℕ → List ℕ → (table now : ℕ → Option Pointer) → Option (Result (Option Pointer) E) → Type 0
StoreSetsTable object bytes table now (Some (Ok earlier)) = (pointer : Pointer) × FitsPointer pointer bytes × ((other : ℕ) → now other ≡ (if object == other then Some pointer else table other))
StoreSetsTable object bytes table now (Some (Err why)) = (other : ℕ) → now other ≡ table other
StoreSetsTable object bytes table now None = (other : ℕ) → now other ≡ table other

-- why no write was begun, where none was
abbrev pub StoreRefusedBy : {R A : Type 0} → racks.Ghosts R → areas.Ghosts A → Bool → (ℕ → Bool) → (ℕ → Option (Shard R A)) → ℕ → BlockValue → Option (Result (Option Pointer) StoreFault) → Type 0
StoreRefusedBy rack area shared owns last m block (Some (Err (Refused why))) = RefusesAt rack area shared owns last m block why
StoreRefusedBy rack area shared owns last m block result = ⊤

-- the pointer that comes back is that of a live block, which the table has no more
pub record ComesBack {R A : Type 0} (rack : racks.Ghosts R) (owns : ℕ → Bool) (now : ℕ → Option (Shard R A)) (table : ℕ → Option Pointer) (object : ℕ) (p : Pointer) : Type 0 where
  pub has : HasPointer now rack owns object p
  pub apart : IsApart table p

-- the pointer of a block that was written: it has the next number, and was born no earlier than in the group that was open in its metaslab
pub record IsNewPointer {R A : Type 0} (last : ℕ → Option (Shard R A)) (seq : ℕ) (pointer : Pointer) : Type 0 where
  pub seq_is : pointer.seq ≡ seq + 1
  pub shard : Shard R A
  pub there : last pointer.metaslab ≡ Some shard
  pub late : shard.open_group ≤ pointer.birth

-- the object has a new pointer, where one was stored; the one that comes back was its own
abbrev pub StoresNew : {R A E : Type 0} → (ℕ → Option (Shard R A)) → (object seq : ℕ) → (table now : ℕ → Option Pointer) → Option (Result (Option Pointer) E) → Type 0
StoresNew last object seq table now (Some (Ok None)) = (pointer : Pointer) × (now object ≡ Some pointer) × IsNewPointer last seq pointer
StoresNew last object seq table now (Some (Ok (Some earlier))) = (pointer : Pointer) × (now object ≡ Some pointer) × IsNewPointer last seq pointer × (table object ≡ Some earlier)
StoresNew last object seq table now (Some (Err why)) = ⊤
StoresNew last object seq table now None = ⊤

-- nothing is to be tried again, but what the checkpoint keeps is to be dropped: the pointer that comes back is of such a block
abbrev pub IsServedBut : {E : Type 0} → Option ℕ → Option (Result (Option Pointer) E) → Type 0
IsServedBut point (Some (Ok None)) = ⊤
IsServedBut point (Some (Ok (Some earlier))) = HasKept point earlier
IsServedBut point (Some (Err why)) = ⊤
IsServedBut point None = ⊥

-- ---- in the metaslab that is named

-- what a write answers, by what became of it in that metaslab; nothing where that had no room any more
abbrev pub IsAnswerTo : Result (Option Pointer) StoreFault → Option (Result (Option Pointer) WriteFault) → Type 0
IsAnswerTo (Ok earlier) result = result ≡ Some (Ok earlier)
IsAnswerTo (Err (Missed missed)) result = result ≡ Some (Err (fault.Missed missed.columns))
IsAnswerTo (Err (Refused begin.NoMemory)) result = result ≡ Some (Err fault.NoMemory)
IsAnswerTo (Err (Refused (begin.Disabled pass))) result = result ≡ None
IsAnswerTo (Err (Refused (begin.Entries held))) result = result ≡ None
IsAnswerTo (Err (Refused (begin.NoRoom largest))) result = result ≡ None
IsAnswerTo (Err (Refused (begin.Worn events))) result = result ≡ None

-- a block was written in the metaslab that the chooser named, and the one that the object had isn't freed or dropped yet
pub record WriteAwaits (x : State) (chosen : List Room → Option ℕ → Type 0) (object : ℕ) (bytes : List ℕ) (point : Option ℕ) (earlier : Pointer) (holds : List Hold) (store : Store) : Type 0 where
  pub m : ℕ
  pub birth : ℕ
  pub columns : ℕ
  pub front : List Hold
  pub back : List Hold
  pub are : holds ≡ front ++ back
  pub tries : Tries x.geometry x.perms chosen object bytes x.store m birth columns front
  pub few : columns ≤ x.geometry.spec.parity
  pub made : store ≡ store_with x.store object m birth bytes
  pub looks : OnlyLooks back
  pub kept : HasKept point earlier → back ≡ []

-- It is to be tried again; or it is a whole write; or one whose earlier block is to be freed or dropped; or it was refused.
module _ {R A S : Type 0} (rack : racks.Ghosts R) (area : areas.Ghosts A) (went : S → ℕ → Shard R A → Shard R A → S → Type 0) (shared : Bool) (owns : ℕ → Bool) (now : ℕ → Option (Shard R A)) (a b : S) (point : Option ℕ) (chosen : List Room → Option ℕ → Type 0) (object : ℕ) (bytes : List ℕ)
    (then_table : ℕ → Option Pointer) (then_seq then_floor : ℕ) (x : State) where
  abbrev pub WritesBy : Option (Result (Option Pointer) WriteFault) → Type 0
  WritesBy None = LeadsBy rack area went shared a b x (λ holds store. (store ≡ x.store) × OnlyLooks holds) (Knows rack area owns now then_table then_seq then_floor)
  WritesBy (Some (Ok None)) = LeadsBy rack area went shared a b x (λ holds store. WriteDoes x chosen object bytes (Ok tt) holds store × (store.marks ≡ x.store.marks)) (Knows rack area owns now then_table then_seq then_floor)
  WritesBy (Some (Ok (Some earlier))) = LeadsBy rack area went shared a b x (WriteAwaits x chosen object bytes point earlier) (KnowsReplaced rack area owns now then_table then_seq then_floor (Some earlier) (write_of x.store.changes object))
  WritesBy (Some (Err why)) = LeadsBy rack area went shared a b x (WriteDoes x chosen object bytes (Err why)) (Knows rack area owns now then_table then_seq then_floor)

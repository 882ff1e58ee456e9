-- What each call of a pool does, by its answer: its holds, and what the pool has of its own before and after.
use Rattle.std.specs.Prelude.{◌≡◌, ◌≤◌, ◌<◌, ◌+◌, ℕ, true, false, List, [], ◌∷◌, ◌++◌, Option, Some, None, Result, Ok, Err}
use Rattle.std.specs.declared.vec.Vec.{Vec}
use Rattle.std.specs.declared.alloc.Global.{Global}
use Rattle.draid_names.specs.declared.refusal.ObjectFault.{ObjectFault}
use Rattle.draid_names.specs.declared.refusal.ObjectFault.TheVariants as object
use Rattle.draid_names.specs.declared.refusal.WriteFault.{WriteFault}
use Rattle.draid_names.specs.declared.refusal.WriteFault.TheVariants as fault
use Rattle.draid_names.specs.declared.room.Room.{Room}
use Rattle.draid_block.specs.Blocks.{cut_of}
use Rattle.draid_block.specs.Many.{IsSolved}
use Rattle.draid_block.specs.Solving.{IsFetched}
use Rattle.draid_block.specs.declared.many.Solve.{Solve}
use Rattle.draid_block.specs.declared.many.Solve.TheVariants.{Bytes, Unreadable}
use Rattle.draid_block.specs.declared.solve.Fetched.{Fetched}
use Rattle.draid_objects.specs.Changes.{Write, Wrote, write_of}
use Rattle.draid_session.specs.Damage as damage
use Rattle.draid_session.specs.Does.{IsOne, ReadStarves}
use Rattle.draid_session.specs.Holds.{Hold, Looked, On, View}
use Rattle.draid_session.specs.Looks.{OnlyLooks}
use Rattle.draid_session.specs.Reads as reads
use Rattle.draid_session.specs.State.{State, Store}
use Rattle.draid_session.specs.Writes as written
use Rattle.draid_store.specs.declared.fault.DamageFault.{DamageFault}
use Rattle.draid_store.specs.declared.fault.DamageFault.TheVariants as damaged
use Rattle.draid_store.specs.declared.fault.FreeFault.{FreeFault}
use Rattle.draid_store.specs.declared.fault.SumFault.{SumFault}
use Rattle.draid_objects.specs.Marks.{Mark}

-- a write, where the chooser may name these metaslabs
abbrev pub WriteDoes : State → (List Room → Option ℕ → Type 0) → ℕ → List ℕ → Result Unit WriteFault → List Hold → Store → Type 0
WriteDoes x chosen o bytes (Ok done) holds new = written.Writes x.geometry x.perms chosen o bytes x.store holds new
WriteDoes x chosen o bytes (Err why) holds new = written.Refuses x.geometry x.perms chosen o bytes why x.store holds new

-- no object is freed where it has no bytes
abbrev pub FreeDoes : State → ℕ → Result Unit FreeFault → List Hold → Store → Type 0
FreeDoes x o (Ok done) holds new = written.Frees o x.store holds new
FreeDoes x o (Err fault) holds new = (new ≡ x.store) × (holds ≡ []) × (write_of x.store.changes o ≡ None)

abbrev pub ReadDoes : State → ℕ → Result (Vec ℕ Global) ObjectFault → List Hold → Store → Type 0
ReadDoes x o (Ok bytes) holds new = (new ≡ x.store) × IsOne (reads.Gives x.geometry x.perms x.store o bytes.items) holds
ReadDoes x o (Err object.NoObject) holds new = (new ≡ x.store) × (holds ≡ []) × (write_of x.store.changes o ≡ None)
ReadDoes x o (Err (object.Unreadable absent tried)) holds new = (new ≡ x.store) × IsOne (reads.Loses x.geometry x.perms x.store o absent tried) holds
ReadDoes x o (Err object.Worn) holds new = (new ≡ x.store) × IsOne (reads.ReadsWorn x.geometry x.perms x.store o) holds
ReadDoes x o (Err object.NoMemory) holds new = (new ≡ x.store) × ReadStarves x.geometry x.perms x.store o 1 holds

abbrev pub SumDoes : State → ℕ → ℕ → Result (List ℕ) SumFault → List Hold → Store → Type 0
SumDoes x first count (Ok digest) holds new = (new ≡ x.store) × reads.Sums x.geometry x.perms x.store first count digest holds
SumDoes x first count (Err fault) holds new = (new ≡ x.store) × reads.SumStops x.geometry x.perms x.store first count fault.object fault.why holds

abbrev pub DamageDoes : State → ℕ → ℕ → Result Unit DamageFault → List Hold → Store → Type 0
DamageDoes x leaf sector (Ok done) holds new = (new ≡ x.store) × damage.Damages x.geometry leaf sector false holds
DamageDoes x leaf sector (Err damaged.NoSuch) holds new = (new ≡ x.store) × damage.IsNotThere x.geometry leaf sector holds
DamageDoes x leaf sector (Err damaged.Worn) holds new = (new ≡ x.store) × damage.DamagesWorn x.geometry leaf sector holds
DamageDoes x leaf sector (Err damaged.Failed) holds new = (new ≡ x.store) × damage.Damages x.geometry leaf sector true holds
DamageDoes x leaf sector (Err damaged.NoMemory) holds new = (new ≡ x.store) × OnlyLooks holds

-- ---- parts of calls

-- a block of these bytes was written in metaslab m, and then the object's earlier one was freed or dropped
pub record WritesIn (x : State) (m o : ℕ) (bytes : List ℕ) (holds : List Hold) (new : Store) : Type 0 where
  pub birth : ℕ
  pub columns : ℕ
  pub group : ℕ
  pub front : List Hold
  pub back : List Hold
  pub are : holds ≡ front ++ back
  pub writes : written.WritesBlock x.geometry o (x.store.seq + 1) bytes x.store.floor m birth columns front
  pub few : columns ≤ x.geometry.spec.parity
  pub marks : List Mark
  pub leaves : written.LeavesEarlier x.store.marks (write_of x.store.changes o) birth group back marks
  pub made : new ≡ record {
    changes = Wrote (record { object = o; seq = x.store.seq + 1; metaslab = m; birth = birth; bytes = bytes }) ∷ x.store.changes;
    marks = marks;
    seq = x.store.seq + 1;
    floor = group;
  }

-- too many of its columns landed nowhere
pub record MissesIn (x : State) (m o : ℕ) (bytes : List ℕ) (columns : ℕ) (holds : List Hold) (new : Store) : Type 0 where
  pub birth : ℕ
  pub writes : written.WritesBlock x.geometry o (x.store.seq + 1) bytes x.store.floor m birth columns holds
  pub over : x.geometry.spec.parity < columns
  pub made : new ≡ record { changes = x.store.changes; marks = x.store.marks; seq = x.store.seq + 1; floor = birth }

-- a write in metaslab m, which has room
abbrev pub WriteInDoes : State → ℕ → ℕ → List ℕ → Result Unit WriteFault → List Hold → Store → Type 0
WriteInDoes x m o bytes (Ok done) holds new = WritesIn x m o bytes holds new
WriteInDoes x m o bytes (Err (fault.NoSpace run disabled full worn)) holds new = ⊥
WriteInDoes x m o bytes (Err (fault.Missed columns)) holds new = MissesIn x m o bytes columns holds new
WriteInDoes x m o bytes (Err fault.Last) holds new = ⊥
WriteInDoes x m o bytes (Err fault.NoMemory) holds new = OnlyLooks holds × (new ≡ x.store)

-- a block's answer as that of a read
abbrev pub reading_of : Solve → Result (Vec ℕ Global) ObjectFault
reading_of (Bytes bytes) = Ok bytes
reading_of (Unreadable absent tried) = Err (object.Unreadable absent tried)

-- an object's block was fetched in this hold
abbrev pub IsFetchOf : State → ℕ → Hold → Type 0
IsFetchOf x o hold = (w : Write) × (absent : List ℕ) × (write_of x.store.changes o ≡ Some w) × reads.Fetches x.geometry x.perms w hold absent

-- An object's block was fetched, in one hold: whatever solves it is an answer to a read of the object.
pub record FetchIs (x : State) (o : ℕ) (fetched : Fetched) (holds : List Hold) (new : Store) : Type 0 where
  pub store : new ≡ x.store
  pub block : IsFetched (cut_of x.geometry) fetched
  pub one : IsOne (IsFetchOf x o) holds
  pub answers : (solve : Solve) → IsSolved (cut_of x.geometry) fetched solve → ReadDoes x o (reading_of solve) holds new

-- Why no block of an object was fetched: it has none; or its metaslab is worn, or memory was wanting, as it was looked at.
abbrev pub NoFetch : State → ℕ → ObjectFault → List Hold → Type 0
NoFetch x o object.NoObject holds = (write_of x.store.changes o ≡ None) × (holds ≡ [])
NoFetch x o (object.Unreadable absent tried) holds = ⊥
NoFetch x o object.Worn holds = IsOne (reads.ReadsWorn x.geometry x.perms x.store o) holds
NoFetch x o object.NoMemory holds = IsOne (λ hold. (v : View) × (hold ≡ On v Looked)) holds

-- an object's block was fetched, or it wasn't
abbrev pub FetchDoes : State → ℕ → Result Fetched ObjectFault → List Hold → Store → Type 0
FetchDoes x o (Ok fetched) holds new = FetchIs x o fetched holds new
FetchDoes x o (Err why) holds new = (new ≡ x.store) × NoFetch x o why holds

-- The columns of a write that is under way.
use Rattle.std.specs.Prelude.{⊤, length, ◌≡◌, ◌+◌, ◌<◌, ◌≤◌, ◌∷◌, ℕ, Bool, true, List, Option, Some, None, Result, Ok, Err, cond, nat_eq}
use Rattle.draid_names.specs.declared.numbers.TheConstants.{LAST_NUMBER}
use Rattle.draid_names.specs.declared.pointer.Pointer.{Pointer}
use Rattle.draid_rack.specs.declared.Rack as racks
use Rattle.draid_area.specs.declared.Area as areas
use Rattle.draid_block.specs.Blocks.{BlockValue, cut_of}
use Rattle.draid_block.specs.Columns.{stripes_of}
use Rattle.draid_machine.specs.State as machine
use Rattle.draid_objects.specs.Changes.{Wrote, write_of}
use Rattle.draid_entries.specs.Maps.{key_of}
use Rattle.draid_blocks.specs.Tickets.{BeginRefused, Carries, IsNewWrite}
use Rattle.draid_blocks.specs.declared.fault.BeginFault.{BeginFault}
use Rattle.draid_blocks.specs.declared.fault.Missed.{Missed}
use Rattle.draid_blocks.specs.declared.ticket.Ticket.{Ticket}
use Rattle.draid_shard.specs.Fits.{Valid}
use Rattle.draid_shard.specs.States.{IsIn}
use Rattle.draid_session.specs.Holds.{Hold}
use Rattle.draid_session.specs.Looks.{OnlyLooks}
use Rattle.draid_session.specs.State.{State, Store}
use Rattle.draid_session.specs.Writes.{PutsColumns}
use Rattle.draid_turn.specs.Calls.{Lock}
use Rattle.draid_pool.specs.declared.cell.Cell.{Cell}
use Rattle.draid_pool.specs.Drifts.{Drifts, groups_number}
use Rattle.draid_pool.specs.Threads.{AllStay, HasPointer, IsWholeBut, IsWholeBy, KeepsWhole, Knows, LeadsBy, all_of, but}
use Rattle.draid_store.specs.Open.{KnowsOpen, KnowsReplaced}
use Rattle.draid_store.specs.Writing.{BeginsIn, EndsIn}
use Rattle.draid_shard.specs.declared.shard.Shard.{Shard}

-- a write is under way in a metaslab, whose blocks have so many columns
pub record CarriesAt {R A : Type 0} (rack : racks.Ghosts R) (last : ℕ → Option (Shard R A)) (m columns : ℕ) (ticket : Ticket) (block : BlockValue) : Type 0 where
  pub shard : Shard R A
  pub there : last m ≡ Some shard
  pub valid : Valid rack shard
  pub carries : Carries shard ticket block
  pub columns_are : shard.geometry.g ≡ columns

-- so many columns are put, and nothing of the thread's own changed
abbrev pub PutsSome : Ticket → ℕ → ℕ → State → List Hold → Store → Type 0
PutsSome ticket m n x holds store = (store ≡ x.store) × PutsColumns (key_of ticket.pointer) m n holds

-- whatever is known as the write is under way, so much is known behind so many columns
abbrev pub PutsBy : {R A S : Type 0} → racks.Ghosts R → areas.Ghosts A → (S → ℕ → Shard R A → Shard R A → S → Type 0) → Bool → (owns now_owns : ℕ → Bool) → (last now : ℕ → Option (Shard R A)) → S → S → ℕ → Ticket → Ticket → BlockValue → ℕ → Type 0
PutsBy rack area went shared owns now_owns last now a b m first ticket block n = (table : ℕ → Option Pointer) (seq floor : ℕ) (x : State) → KnowsOpen rack area owns last table seq floor m first block x
    → LeadsBy rack area went shared a b x (PutsSome first m n x) (KnowsOpen rack area now_owns now table seq floor m ticket block)

-- so many of its columns were put
pub record Putting {R A S : Type 0} (rack : racks.Ghosts R) (area : areas.Ghosts A) (went : S → ℕ → Shard R A → Shard R A → S → Type 0) (shared : Bool) (held locks : List (Lock (Cell R A))) (owns now_owns : ℕ → Bool) (fits : Type 0) (last now : ℕ → Option (Shard R A))
    (a b : S) (m columns : ℕ) (first ticket : Ticket) (block same : BlockValue) (n : ℕ) : Type 0 where
  pub fit : fits
  pub same_locks : held ≡ locks
  pub owned : now_owns ≡ owns
  pub carries : CarriesAt rack now m columns ticket block
  pub next : ticket.next ≡ n
  pub pointer : ticket.pointer ≡ first.pointer
  pub block_is : same ≡ block
  pub step : PutsBy rack area went shared owns now_owns last now a b m first ticket block n
  pub stay : AllStay owns last now
  pub whole : KeepsWhole rack owns (but m (key_of first.pointer) (all_of owns)) last now

-- ---- the begin

-- a metaslab takes a block by its layout, and its blocks have so many columns
pub record Takes {R A : Type 0} (last : ℕ → Option (Shard R A)) (m columns : ℕ) (block : BlockValue) : Type 0 where
  pub shard : Shard R A
  pub there : last m ≡ Some shard
  pub cut : block.cut ≡ cut_of shard.geometry
  pub columns_are : shard.geometry.g ≡ columns

-- a metaslab as it was left, in which the next write of an object may be begun
pub record MayStart {R A : Type 0} (rack : racks.Ghosts R) (owns : ℕ → Bool) (last : ℕ → Option (Shard R A)) (m columns object seq floor : ℕ) (block : BlockValue) : Type 0 where
  pub shard : Shard R A
  pub there : last m ≡ Some shard
  pub valid : Valid rack shard
  pub number : shard.number ≡ m
  pub new : IsNewWrite shard object (seq + 1)
  pub low : floor ≤ LAST_NUMBER
  pub next : owns groups_number ≡ true → floor ≤ shard.committed + 2
  pub cut : block.cut ≡ cut_of shard.geometry
  pub columns_are : shard.geometry.g ≡ columns

-- what is whole behind a begin: all but the block of the ticket, if there is one, with the group of its birth for a floor
abbrev pub BeginsWhole : {R A : Type 0} → racks.Ghosts R → (ℕ → Bool) → (ℕ → Option (Shard R A)) → (ℕ → Option Pointer) → (seq floor m : ℕ) → Option (Result Ticket BeginFault) → Type 0
BeginsWhole rack owns now table seq floor m None = IsWholeBy rack owns now table seq floor
BeginsWhole rack owns now table seq floor m (Some (Ok ticket)) = IsWholeBut rack owns (but m (key_of ticket.pointer) (all_of owns)) now table seq ticket.pointer.birth
BeginsWhole rack owns now table seq floor m (Some (Err fault)) = IsWholeBy rack owns now table seq floor

-- why no write was begun in a metaslab, as it was found
pub record RefusesAt {R A : Type 0} (rack : racks.Ghosts R) (area : areas.Ghosts A) (shared : Bool) (owns : ℕ → Bool) (last : ℕ → Option (Shard R A)) (m : ℕ) (block : BlockValue) (fault : BeginFault) : Type 0 where
  pub shard : Shard R A
  pub there : last m ≡ Some shard
  pub found : Shard R A
  pub drifts : Drifts rack area shared owns shard found
  pub why : (w : machine.State) → IsIn found w → BeginRefused found (stripes_of (cut_of found.geometry) (length block.bytes)) w fault

abbrev pub BeginRefusedBy : {R A : Type 0} → racks.Ghosts R → areas.Ghosts A → Bool → (ℕ → Bool) → (ℕ → Option (Shard R A)) → ℕ → BlockValue → Option (Result Ticket BeginFault) → Type 0
BeginRefusedBy rack area shared owns last m block None = ⊤
BeginRefusedBy rack area shared owns last m block (Some (Ok ticket)) = ⊤
BeginRefusedBy rack area shared owns last m block (Some (Err fault)) = RefusesAt rack area shared owns last m block fault

module _ {R A S : Type 0} (rack : racks.Ghosts R) (area : areas.Ghosts A) (went : S → ℕ → Shard R A → Shard R A → S → Type 0) (shared : Bool) (owns now_owns : ℕ → Bool) (last now : ℕ → Option (Shard R A)) (a b : S) (m columns object seq floor : ℕ) (block : BlockValue) where
  -- nothing came of it
  abbrev pub LooksBy : Type 0
  LooksBy = (table : ℕ → Option Pointer) (x : State) → Knows rack area owns last table seq floor x
      → LeadsBy rack area went shared a b x (λ holds store. (store ≡ x.store) × OnlyLooks holds) (Knows rack area now_owns now table seq floor)

  -- the write is under way
  pub record StartsBy (ticket : Ticket) : Type 0 where
    pub carries : CarriesAt rack now m columns ticket block
    pub fresh : ticket.next ≡ 0
    pub object_is : ticket.pointer.object ≡ object
    pub seq_is : ticket.pointer.seq ≡ seq + 1
    pub at : ticket.pointer.metaslab ≡ m
    pub low : ticket.pointer.birth ≤ LAST_NUMBER
    pub late : (shard : Shard R A) → last m ≡ Some shard → shard.open_group ≤ ticket.pointer.birth
    pub step : (table : ℕ → Option Pointer) (x : State) → Knows rack area owns last table seq floor x
        → LeadsBy rack area went shared a b x (λ holds store. (store ≡ x.store) × BeginsIn x.geometry m floor ticket.pointer block.bytes holds) (KnowsOpen rack area now_owns now table seq floor m ticket block)

  abbrev pub BeginSays : Option (Result Ticket BeginFault) → Type 0
  BeginSays None = LooksBy
  BeginSays (Some (Err fault)) = LooksBy
  BeginSays (Some (Ok ticket)) = StartsBy ticket

-- ---- the end

-- what is whole behind the end of a write; where its block is live it has a pointer
abbrev pub EndsWhole : {R A : Type 0} → racks.Ghosts R → (ℕ → Bool) → (ℕ → Option (Shard R A)) → (ℕ → Option Pointer) → (seq floor object : ℕ) → Result Pointer Missed → Type 0
EndsWhole rack owns now table seq floor object (Ok pointer) = IsWholeBy rack owns now table (seq + 1) floor × HasPointer now rack owns object pointer
EndsWhole rack owns now table seq floor object (Err missed) = IsWholeBy rack owns now table (seq + 1) floor

-- whatever is known as the write is under way, so much is known as it ended, where its pointer comes into the table
module _ {R A S : Type 0} (rack : racks.Ghosts R) (area : areas.Ghosts A) (went : S → ℕ → Shard R A → Shard R A → S → Type 0) (shared : Bool) (owns now_owns : ℕ → Bool) (last now : ℕ → Option (Shard R A)) (a b : S) (m : ℕ) (ticket : Ticket) (block : BlockValue) where
  abbrev pub EndSays : Result Pointer Missed → Type 0
  EndSays (Ok pointer) = (table then_table : ℕ → Option Pointer) (seq floor : ℕ) (x : State) → ((q : ℕ) → then_table q ≡ cond (nat_eq ticket.pointer.object q) (Some pointer) (table q)) → ticket.next ≡ x.geometry.g → KnowsOpen rack area owns last table seq floor m ticket block x
      → LeadsBy rack area went shared a b x
      (λ holds store. EndsIn m (key_of ticket.pointer) ticket.missed holds × (ticket.missed ≤ x.geometry.spec.parity)
      × (store ≡ record { changes = Wrote (record { object = ticket.pointer.object; seq = x.store.seq + 1; metaslab = m; birth = ticket.pointer.birth; bytes = block.bytes }) ∷ x.store.changes; marks = x.store.marks; seq = x.store.seq + 1; floor = ticket.pointer.birth }))
      (KnowsReplaced rack area now_owns now then_table (seq + 1) ticket.pointer.birth (table ticket.pointer.object) (write_of x.store.changes ticket.pointer.object))
  EndSays (Err missed) = (missed.columns ≡ ticket.missed) × ((table : ℕ → Option Pointer) (seq floor : ℕ) (x : State) → KnowsOpen rack area owns last table seq floor m ticket block x
      → LeadsBy rack area went shared a b x (λ holds store. EndsIn m (key_of ticket.pointer) ticket.missed holds × (x.geometry.spec.parity < ticket.missed) × (store ≡ record { changes = x.store.changes; marks = x.store.marks; seq = x.store.seq + 1; floor = ticket.pointer.birth }))
      (Knows rack area now_owns now table (seq + 1) ticket.pointer.birth))

-- A write in holds: its beginning, its columns and its end.
use Rattle.std.specs.Prelude.{◌≡◌, ◌≤◌, ◌<◌, ◌+◌, ℕ, List, [], ◌∷◌, Option, Some, None, MatchOption, Result, Ok, Err, length, max}
use Rattle.sha2.specs.Sha256.{sha256}
use Rattle.draid_names.specs.declared.numbers.TheConstants.{LAST_NUMBER}
use Rattle.draid_names.specs.declared.pointer.Pointer.{Pointer}
use Rattle.draid_rack.specs.declared.Rack as racks
use Rattle.draid_spec.specs.declared.layout.Geometry.{Geometry}
use Rattle.draid_block.specs.Blocks.{BlockValue, cut_of}
use Rattle.draid_block.specs.Columns.{stripes_of}
use Rattle.draid_machine.specs.declared.event.Event.TheVariants as event
use Rattle.draid_machine.specs.declared.names.Key.{Key}
use Rattle.draid_machine.specs.declared.names.Stage.TheVariants.{Live}
use Rattle.draid_machine.specs.State as machine
use Rattle.draid_entries.specs.Entries.{held_in}
use Rattle.draid_entries.specs.Maps.{key_of, staged}
use Rattle.draid_shard.specs.Calls.{SameAreas, SameKit, SameReserve}
use Rattle.draid_shard.specs.Changes.{DoesNothing, SetsBlock}
use Rattle.draid_shard.specs.Fits.{Valid}
use Rattle.draid_shard.specs.Rooms.{IsWornFor, block_events}
use Rattle.draid_shard.specs.States.{Does, IsIn, part_of}
use Rattle.draid_shard.specs.declared.shard.Shard.{Shard}
use Rattle.draid_blocks.specs.Tickets.{BeginRefused, Carries, IsNewWrite, Opens, Puts, begins}
use Rattle.draid_blocks.specs.declared.fault.BeginFault.{BeginFault}
use Rattle.draid_blocks.specs.declared.fault.Missed.{Missed}
use Rattle.draid_blocks.specs.declared.ticket.Ticket.{Ticket}
use Rattle.draid_session.specs.Holds.{Did, Hold, On, View}
use Rattle.draid_session.specs.Rooms.{IsShut, stripes_for}
use Rattle.draid_session.specs.Writes.{HasMissed}

module _ {R A : Type 0} (rack : racks.Ghosts R) where
  -- ---- its beginning

  pub record MayBeginIn (shard : Shard R A) (object seq floor : ℕ) (block : BlockValue) : Type 0 where
    pub valid : Valid rack shard
    pub new : IsNewWrite shard object seq
    pub low : floor ≤ LAST_NUMBER
    pub cut : block.cut ≡ cut_of shard.geometry

  -- a ticket was opened
  pub record BeginsBlock (old : Shard R A) (object seq floor : ℕ) (block : BlockValue) (ticket : Ticket) (new : Shard R A) : Type 0 where
    pub unused : held_in old.entries (record { object = object; seq = seq }) ≡ None
    pub low : max old.open_group floor ≤ LAST_NUMBER
    pub opens : Opens old new object seq (max old.open_group floor) block ticket
    pub does : Does old new (begins ticket.pointer)
    pub not_worn : IsWornFor old (block_events old) → ⊥

  -- it was refused, and nothing changed
  pub record RefusesBegin (old : Shard R A) (block : BlockValue) (fault : BeginFault) (new : Shard R A) : Type 0 where
    pub nothing : DoesNothing old new
    pub refused : (w : machine.State) → IsIn old w → BeginRefused old (stripes_of (cut_of old.geometry) (length block.bytes)) w fault

  abbrev pub BeginsAs : Shard R A → ℕ → ℕ → ℕ → BlockValue → Result Ticket BeginFault → Shard R A → Type 0
  BeginsAs old object seq floor block (Ok ticket) new = BeginsBlock old object seq floor block ticket new
  BeginsAs old object seq floor block (Err fault) new = RefusesBegin old block fault new

  pub record BeginsShard (old : Shard R A) (object seq floor : ℕ) (block : BlockValue) (out : Option (Result Ticket BeginFault)) (new : Shard R A) : Type 0 where
    pub valid : Valid rack new
    pub part : part_of new ≡ part_of old
    pub kit : SameKit old new
    pub reserve : SameReserve old new
    pub pass : new.pass ≡ old.pass
    pub did : MatchOption out (old.open_group + 1 < floor) (λ result. (floor ≤ old.open_group + 1) × BeginsAs old object seq floor block result new)
    pub early : out ≡ None → new ≡ old

  -- ---- its columns

  pub record MayPutIn (shard : Shard R A) (ticket : Ticket) (block : BlockValue) : Type 0 where
    pub valid : Valid rack shard
    pub carries : Carries shard ticket block
    pub left : ticket.next < shard.geometry.g

  pub record PutsShard (old : Shard R A) (ticket : Ticket) (block : BlockValue) (now : Ticket) (new : Shard R A) : Type 0 where
    pub valid : Valid rack new
    pub areas_are : SameAreas old new
    pub reserve : SameReserve old new
    pub pass : new.pass ≡ old.pass
    pub carried : Carries old ticket block
    pub carries : Carries new now block
    pub puts : Puts rack old new ticket now block

  -- ---- its end

  pub record MayFinishIn (shard : Shard R A) (ticket : Ticket) (block : BlockValue) : Type 0 where
    pub valid : Valid rack shard
    pub carries : Carries shard ticket block
    pub all : ticket.next ≡ shard.geometry.g

  -- the block is live, or it is gone
  abbrev pub FinishesAs : Shard R A → Ticket → Result Pointer Missed → Shard R A → Type 0
  FinishesAs old ticket (Ok pointer) new = (pointer ≡ ticket.pointer) × (ticket.missed ≤ old.geometry.spec.parity) × SetsBlock old new ticket.pointer (Some (staged Live ticket.pointer))
  FinishesAs old ticket (Err missed) new = (missed.columns ≡ ticket.missed) × (old.geometry.spec.parity < ticket.missed) × SetsBlock old new ticket.pointer None

  pub record FinishesShard (old : Shard R A) (ticket : Ticket) (block : BlockValue) (result : Result Pointer Missed) (new : Shard R A) : Type 0 where
    pub valid : Valid rack new
    pub kit : SameKit old new
    pub reserve : SameReserve old new
    pub pass : new.pass ≡ old.pass
    pub carried : Carries old ticket block
    pub all : ticket.next ≡ old.geometry.g
    pub does : Does old new (event.Finish (key_of ticket.pointer))
    pub ends : FinishesAs old ticket result new

-- ---- holds

-- a ticket is opened in metaslab m for a block of these bytes
pub record BeginsIn (geometry : Geometry) (m floor : ℕ) (pointer : Pointer) (bytes : List ℕ) (holds : List Hold) : Type 0 where
  pub v : View
  pub begun : machine.State
  pub are : holds ≡ On v (Did (begins pointer) begun) ∷ []
  pub there : v.metaslab ≡ m
  pub takes_blocks : IsShut geometry v → ⊥
  pub birth_is : pointer.birth ≡ max v.world.open_group floor
  pub stripes_are : pointer.stripes ≡ stripes_for geometry bytes
  pub len_is : pointer.len ≡ length bytes
  pub digest_is : pointer.digest ≡ sha256 bytes

-- it ends, and so many of its columns have landed nowhere
pub record EndsIn (m : ℕ) (key : Key) (columns : ℕ) (holds : List Hold) : Type 0 where
  pub v : View
  pub ended : machine.State
  pub are : holds ≡ On v (Did (event.Finish key) ended) ∷ []
  pub there : v.metaslab ≡ m
  pub missed : HasMissed v key columns

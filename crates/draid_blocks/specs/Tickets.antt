-- What the calls of a write say: its ticket, the columns that it carries, and why none was opened.
use Rattle.std.specs.Prelude.{◌≡◌, ◌<◌, ◌≤◌, ◌+◌, ⊤, ℕ, List, Some, None, if◌then◌else◌}
use Rattle.draid_names.specs.Numbers.{most_held}
use Rattle.draid_names.specs.declared.numbers.TheConstants.{NUMBERS, OBJECTS}
use Rattle.draid_names.specs.declared.pass_kind.PassKind.TheVariants.{Rebuild}
use Rattle.draid_names.specs.declared.pointer.Pointer.{Pointer}
use Rattle.draid_block.specs.Blocks.{AreColumns, BlockValue, IsContent, cut_of}
use Rattle.draid_rack.specs.declared.Rack.{Ghosts}
use Rattle.draid_machine.specs.declared.event.Event.{Event}
use Rattle.draid_machine.specs.declared.event.Event.TheVariants as event
use Rattle.draid_machine.specs.declared.names.ArmName.{ArmName}
use Rattle.draid_machine.specs.declared.names.Stage.TheVariants as stage
use Rattle.draid_machine.specs.Names.{is_nil}
use Rattle.draid_machine.specs.State as machine
use Rattle.draid_machine.specs.Step.{Fits, HoldsFewer, IsEnabled, IsLongest}
use Rattle.draid_segments.specs.Segments.{Pieces}
use Rattle.draid_entries.specs.Entries.{begun, count_of, entry_at, held_in}
use Rattle.draid_entries.specs.History.{owed_of, stored_of}
use Rattle.draid_entries.specs.Maps.{key_of, staged}
use Rattle.draid_shard.specs.Changes.{SetsBlock}
use Rattle.draid_shard.specs.Columns.{ArePieces}
use Rattle.draid_shard.specs.States.{Does, layout_by}
use Rattle.draid_blocks.specs.declared.fault.BeginFault.{BeginFault}
use Rattle.draid_blocks.specs.declared.fault.BeginFault.TheVariants as begin
use Rattle.draid_shard.specs.declared.shard.Shard.{Shard}
use Rattle.draid_blocks.specs.declared.ticket.Ticket.{Ticket}
use Rattle.draid_shard.specs.Calls.{ActsOn, CountsFailed}
use Rattle.draid_shard.specs.Rooms.{IsWornFor, block_events}

-- a write of this number to an object may be begun: both are in range, and no block or ticket has them
pub record IsNewWrite {R A : Type 0} (shard : Shard R A) (object seq : ℕ) : Type 0 where
  pub object_small : object < OBJECTS
  pub some_seq : 1 ≤ seq
  pub seq_small : seq < NUMBERS
  pub unused : held_in shard.entries (record { object = object; seq = seq }) ≡ None

-- the event of a write that begins at its pointer's place
abbrev pub begins : Pointer → Event
begins p = event.Begin (key_of p) p.first p.stripes p.len p.birth p.digest

-- a ticket of this write of a block that is born in this group, of which no column is put yet
pub record IsTicketOf {R A : Type 0} (shard : Shard R A) (object seq birth : ℕ) (ticket : Ticket) : Type 0 where
  pub object_is : ticket.pointer.object ≡ object
  pub seq_is : ticket.pointer.seq ≡ seq
  pub metaslab_is : ticket.pointer.metaslab ≡ shard.number
  pub birth_is : ticket.pointer.birth ≡ birth
  pub fresh : (ticket.next ≡ 0) × (ticket.missed ≡ 0)

-- the ticket's write is under way here, and has come so far
abbrev pub IsOpen : {R A : Type 0} → Shard R A → Ticket → Type 0
IsOpen shard ticket = entry_at shard.entries ticket.pointer.first ≡ Some (staged (stage.Writing ticket.next ticket.missed) ticket.pointer)

-- and is that of this block
pub record Carries {R A : Type 0} (shard : Shard R A) (ticket : Ticket) (block : BlockValue) : Type 0 where
  pub is_open : IsOpen shard ticket
  pub cut : block.cut ≡ cut_of shard.geometry
  pub content : IsContent ticket.pointer block.bytes
  pub columns : AreColumns block.cut block.bytes block.columns
  pub count : ticket.next ≤ shard.geometry.g
  pub few : ticket.missed ≤ ticket.next

-- a ticket was opened for this write where no block or ticket begins, and carries this block
pub record Opens {R A : Type 0} (old new : Shard R A) (object seq birth : ℕ) (block : BlockValue) (ticket : Ticket) : Type 0 where
  pub named : IsTicketOf old object seq birth ticket
  pub carries : Carries new ticket block
  pub was : entry_at old.entries ticket.pointer.first ≡ None
  pub enters : SetsBlock old new ticket.pointer (Some (begun ticket.pointer))

-- why no ticket was opened for a block of so many stripes
abbrev pub BeginRefused : {R A : Type 0} → Shard R A → ℕ → machine.State → BeginFault → Type 0
BeginRefused shard need w (begin.Disabled pass) = (p : machine.Pass) × (w.core.pass ≡ Some p) × (p.kind ≡ Rebuild) × (pass ≡ p.number)
BeginRefused shard need w (begin.Entries held) =
    IsEnabled w.core × (HoldsFewer w.core (most_held w.version) → ⊥) × (held ≡ count_of shard.entries)
BeginRefused shard need w (begin.NoRoom largest) =
    IsEnabled w.core × HoldsFewer w.core (most_held w.version) × IsLongest (layout_by shard) w.core largest × (largest < need)
BeginRefused shard need w (begin.Worn events) =
    IsEnabled w.core × HoldsFewer w.core (most_held w.version) × ((first : ℕ) × Fits (layout_by shard) w.core first need)
    × IsWornFor shard (block_events shard) × (events ≡ stored_of shard.history + owed_of shard.history)
BeginRefused shard need w begin.NoMemory = ⊤

-- The next column of a ticket was put, and landed on these arms. Where it landed on none it is one more that was missed.
pub record Puts {R A : Type 0} (rack : Ghosts R) (old new : Shard R A) (before now : Ticket) (block : BlockValue) : Type 0 where
  pub landed : List ArmName
  pub failed : List ℕ
  pub does : Does old new (event.Put (key_of before.pointer) landed failed)
  pub pointer : now.pointer ≡ before.pointer
  pub next : now.next ≡ before.next + 1
  pub missed : now.missed ≡ before.missed + (if is_nil landed then 1 else 0)
  pub sets : SetsBlock old new before.pointer (Some (staged (stage.Writing now.next now.missed) before.pointer))
  pub acts : (pieces : Pieces) → ArePieces old.geometry.props.sector old.geometry.g before.pointer.stripes block.columns (key_of before.pointer) pieces
      → ActsOn rack old new (event.Put (key_of before.pointer) landed failed) pieces
  pub counts : CountsFailed failed (rack.faults old.rack) (rack.faults new.rack)

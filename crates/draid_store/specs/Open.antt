-- What a thread knows of a pool's state while a write of its own is under way.
use Rattle.std.specs.Prelude.{◌≡◌, ◌+◌, ◌<◌, ◌≤◌, ℕ, Bool, true, Option, Some, None}
use Rattle.draid_names.specs.declared.numbers.TheConstants.{LAST_NUMBER}
use Rattle.draid_names.specs.declared.pointer.Pointer.{Pointer}
use Rattle.draid_rack.specs.declared.Rack as racks
use Rattle.draid_area.specs.declared.Area as areas
use Rattle.draid_block.specs.Blocks.{BlockValue}
use Rattle.draid_blocks.specs.declared.ticket.Ticket.{Ticket}
use Rattle.draid_segments.specs.Segments.{Pieces}
use Rattle.draid_entries.specs.Maps.{key_of}
use Rattle.draid_objects.specs.Changes.{Write, write_of}
use Rattle.draid_shard.specs.Columns.{ArePieces}
use Rattle.draid_shard.specs.declared.shard.Shard.{Shard}
use Rattle.draid_session.specs.State.{State}
use Rattle.draid_pool.specs.Threads.{Bounds, IsPointerAt, Knows, KnowsBut, all_of, but, own_store}
use Rattle.draid_objects.specs.Stores.{IsBehindChecks}

-- A write is under way in this metaslab: its ticket carries the block there, as it was left, has the next number, and was born behind each checkpoint. The pieces of its columns so far are there.
pub record KnowsOpen {R A : Type 0} (rack : racks.Ghosts R) (area : areas.Ghosts A) (owns : ℕ → Bool) (last : ℕ → Option (Shard R A)) (table : ℕ → Option Pointer) (number group m : ℕ) (ticket : Ticket) (block : BlockValue) (x : State) : Type 0 where
  pub pieces : ℕ → Pieces
  pub but_it : KnowsBut rack area owns (but m (key_of ticket.pointer) (all_of owns)) (but m (key_of ticket.pointer) (all_of owns)) last table number group pieces x
  pub own : owns ticket.pointer.object ≡ true
  pub next : ticket.pointer.seq ≡ number + 1
  pub at : ticket.pointer.metaslab ≡ m
  pub born : group ≤ ticket.pointer.birth
  pub low : ticket.pointer.birth ≤ LAST_NUMBER
  pub behind : (c : ℕ) → Bounds x c → IsBehindChecks c (own_store owns x.store).marks ticket.pointer.birth
  pub rows : ArePieces x.geometry.props.sector ticket.next ticket.pointer.stripes block.columns (key_of ticket.pointer) (pieces m)

-- A write ended, and the block that its object had before isn't freed yet.
pub record KnowsEarlier {R A : Type 0} (rack : racks.Ghosts R) (area : areas.Ghosts A) (owns : ℕ → Bool) (last : ℕ → Option (Shard R A)) (table : ℕ → Option Pointer) (number group : ℕ) (earlier : Pointer) (write : Write) (x : State) : Type 0 where
  pub pieces : ℕ → Pieces
  pub but_it : KnowsBut rack area owns (all_of owns) (but earlier.metaslab (key_of earlier) (all_of owns)) last table number group pieces x
  pub own : owns earlier.object ≡ true
  pub had : IsPointerAt last earlier write
  pub newer : Write
  pub is_last : write_of x.store.changes earlier.object ≡ Some newer
  pub later : earlier.seq < newer.seq

-- or it had none
abbrev pub KnowsReplaced : {R A : Type 0} → racks.Ghosts R → areas.Ghosts A → (ℕ → Bool) → (ℕ → Option (Shard R A)) → (ℕ → Option Pointer) → (number group : ℕ) → Option Pointer → Option Write → State → Type 0
KnowsReplaced rack area owns last table number group None before x = (before ≡ None) × Knows rack area owns last table number group x
KnowsReplaced rack area owns last table number group (Some earlier) before x = (write : Write) × (before ≡ Some write) × KnowsEarlier rack area owns last table number group earlier write x

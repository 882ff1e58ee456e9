-- What the fetching of a block says.
use Rattle.std.specs.Prelude.{◌≡◌, ◌+◌, ⊤, ℕ, Some}
use Rattle.std.specs.declared.vec.Vec.{Vec}
use Rattle.std.specs.declared.alloc.Global.{Global}
use Rattle.draid_names.specs.declared.pointer.Pointer.{Pointer}
use Rattle.draid_block.specs.Blocks.{cut_of}
use Rattle.draid_block.specs.Solving.{IsFetched}
use Rattle.draid_block.specs.declared.solve.Fetched.{Fetched}
use Rattle.draid_rack.specs.declared.Rack.{Ghosts}
use Rattle.draid_machine.specs.declared.event.Event.TheVariants as event
use Rattle.draid_machine.specs.declared.names.Held.{Held}
use Rattle.draid_machine.specs.Created.{IsReached}
use Rattle.draid_machine.specs.State as machine
use Rattle.draid_readable.specs.Fetched.{AreFetched}
use Rattle.draid_entries.specs.History.{owed_of, stored_of}
use Rattle.draid_entries.specs.Maps.{key_of}
use Rattle.draid_shard.specs.Alike.{KeepsArms}
use Rattle.draid_shard.specs.Changes.{KeepsBlocks}
use Rattle.draid_shard.specs.States.{Does, IsIn, layout_by}
use Rattle.draid_blocks.specs.declared.fault.FetchFault.{FetchFault}
use Rattle.draid_blocks.specs.declared.fault.FetchFault.TheVariants as fetch
use Rattle.draid_shard.specs.declared.shard.Shard.{Shard}
use Rattle.draid_shard.specs.Calls.{CountsFailed}
use Rattle.draid_shard.specs.Looks.{IsLive}
use Rattle.draid_shard.specs.Rooms.{IsWornFor}

-- A live block was fetched.
pub record Fetches {R A : Type 0} (rack : Ghosts R) (old new : Shard R A) (pointer : Pointer) (fetched : Fetched) : Type 0 where
  pub live : IsLive old pointer
  pub pointer_is : fetched.pointer ≡ pointer
  pub fetched_is : IsFetched (cut_of old.geometry) fetched
  pub keeps : KeepsBlocks old new
  pub slots : KeepsArms old.slots new.slots
  pub failed : Vec ℕ Global
  pub does : Does old new (event.Fetch (key_of pointer) failed)
  pub counts : CountsFailed failed.items (rack.faults old.rack) (rack.faults new.rack)
  pub are : (w : machine.State) (h : Held) → IsReached (layout_by old) w → IsIn old w → w.core.held (key_of pointer) ≡ Some h
      → AreFetched (layout_by old) w h old.geometry.props.sector failed.items fetched.columns.items (rack.told old.rack)

-- why no block was fetched, but for one that isn't live and for want of memory
abbrev pub FetchIsWorn : {R A : Type 0} → Shard R A → FetchFault → Type 0
FetchIsWorn shard fetch.NotLive = ⊤
FetchIsWorn shard (fetch.Worn events) = IsWornFor shard 1 × (events ≡ stored_of shard.history + owed_of shard.history)
FetchIsWorn shard fetch.NoMemory = ⊤

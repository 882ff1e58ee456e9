-- The freeing of a block in one hold.
use Rattle.std.specs.Prelude.{◌≡◌, ◌≤◌, ◌<◌, ◌+◌, ℕ, Option, Some, None, MatchOption, List, Result, max}
use Rattle.draid_names.specs.declared.numbers.TheConstants.{LAST_NUMBER}
use Rattle.draid_names.specs.declared.pointer.Pointer.{Pointer}
use Rattle.draid_rack.specs.declared.Rack as racks
use Rattle.draid_area.specs.declared.Area as areas
use Rattle.draid_machine.specs.declared.names.Stage.TheVariants.{Freed}
use Rattle.draid_segments.specs.Segments.{Pieces}
use Rattle.draid_entries.specs.Maps.{staged}
use Rattle.draid_shard.specs.Calls.{SameAreas, SameReserve}
use Rattle.draid_shard.specs.Looks.{IsLive}
use Rattle.draid_shard.specs.Changes.{SetsBlock}
use Rattle.draid_shard.specs.Fits.{Valid}
use Rattle.draid_shard.specs.Part.{Part}
use Rattle.draid_shard.specs.States.{part_of}
use Rattle.draid_shard.specs.declared.shard.Shard.{Shard}
use Rattle.draid_session.specs.State.{Metaslab, State, Store}
use Rattle.draid_session.specs.Holds.{Hold}
use Rattle.draid_session.specs.Looks.{OnlyLooks}
use Rattle.draid_store.specs.Answers.{FreeDoes}
use Rattle.draid_pool.specs.Metaslabs.{IsMetaslab}
use Rattle.draid_pool.specs.Shards.{FreesIn, Goes}
use Rattle.draid_store.specs.declared.fault.FreeFault.{FreeFault}

module _ {R A : Type 0} (rack : racks.Ghosts R) where
  pub record MayFreeIn (shard : Shard R A) (pointer : Pointer) (floor : ℕ) : Type 0 where
    pub valid : Valid rack shard
    pub live : IsLive shard pointer
    pub low : floor ≤ LAST_NUMBER

  module _ (area : areas.Ghosts A) where
    -- a block was freed
    pub record FreesBlock (old : Shard R A) (pointer : Pointer) (floor group : ℕ) (new : Shard R A) : Type 0 where
      pub group_is : group ≡ max old.open_group floor
      pub low : group ≤ LAST_NUMBER
      pub upto : floor ≤ old.open_group + 1
      pub sets : SetsBlock old new pointer (Some (staged (Freed group) pointer))
      pub reserve : SameReserve old new
      pub pass : new.pass ≡ old.pass
      pub areas_are : SameAreas old new
      pub frees : (part : Part) (pieces : Pieces) (x : Metaslab) → IsMetaslab rack area part pieces old x → Goes rack area part pieces x new (FreesIn part.number pointer floor group x)

    -- it isn't its turn, and nothing changed
    pub record IsEarly (old : Shard R A) (floor : ℕ) (new : Shard R A) : Type 0 where
      pub early : old.open_group + 1 < floor
      pub same : new ≡ old

    pub record FreesShard (old : Shard R A) (pointer : Pointer) (floor : ℕ) (out : Option ℕ) (new : Shard R A) : Type 0 where
      pub valid : Valid rack new
      pub part : part_of new ≡ part_of old
      pub did : MatchOption out (IsEarly old floor new) (λ group. FreesBlock old pointer floor group new)

-- an object is freed, or it has no bytes; or its metaslab was looked at, and it is to be tried again
abbrev pub TriesFree : State → ℕ → Option (Result Unit FreeFault) → List Hold → Store → Type 0
TriesFree x object None holds new = (new ≡ x.store) × OnlyLooks holds
TriesFree x object (Some result) holds new = FreeDoes x object result holds new

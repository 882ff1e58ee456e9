-- The fetching of a block in one hold.
use Rattle.std.specs.Prelude.{◌≡◌, ◌≤◌, ◌<◌, ◌+◌, ◌++◌, ℕ, Bool, true, List, Result, Ok, Err}
use Rattle.draid_names.specs.declared.pointer.Pointer.{Pointer}
use Rattle.draid_names.specs.declared.refusal.ObjectFault.{ObjectFault}
use Rattle.draid_names.specs.declared.refusal.ObjectFault.TheVariants as object
use Rattle.draid_rack.specs.declared.Rack as racks
use Rattle.draid_block.specs.declared.solve.Fetched.{Fetched}
use Rattle.draid_blocks.specs.Fetching.{Fetches}
use Rattle.draid_shard.specs.Calls.{SameAreas, SameKit, SameReserve}
use Rattle.draid_shard.specs.Changes.{DoesNothing}
use Rattle.draid_shard.specs.Fits.{Valid}
use Rattle.draid_shard.specs.Looks.{IsLive}
use Rattle.draid_shard.specs.Rooms.{IsWornFor}
use Rattle.draid_shard.specs.States.{part_of}
use Rattle.draid_shard.specs.declared.shard.Shard.{Shard}
use Rattle.draid_session.specs.Holds.{Hold}
use Rattle.draid_session.specs.Looks.{OnlyLooks}
use Rattle.draid_session.specs.State.{Store}

-- so many objects from one on are a thread's own
abbrev pub OwnsFrom : (ℕ → Bool) → ℕ → ℕ → Type 0
OwnsFrom owns first count = (o : ℕ) → first ≤ o → o < first + count → owns o ≡ true

module _ {R A : Type 0} (rack : racks.Ghosts R) where
  pub record MayFetchIn (shard : Shard R A) (pointer : Pointer) : Type 0 where
    pub valid : Valid rack shard
    pub live : IsLive shard pointer

  -- the columns of a block were read
  pub record FetchesBlock (old : Shard R A) (pointer : Pointer) (fetched : Fetched) (new : Shard R A) : Type 0 where
    pub fetches : Fetches rack old new pointer fetched
    pub areas_are : SameAreas old new
    pub told : rack.told new.rack ≡ rack.told old.rack
    pub reserve : SameReserve old new
    pub not_worn : IsWornFor old 1 → ⊥

  -- none were, and nothing changed
  pub record FetchesNone (old new : Shard R A) : Type 0 where
    pub nothing : DoesNothing old new
    pub kit : SameKit old new
    pub reserve : SameReserve old new

  abbrev pub FetchesAs : Shard R A → Pointer → Result Fetched ObjectFault → Shard R A → Type 0
  FetchesAs old pointer (Ok fetched) new = FetchesBlock old pointer fetched new
  FetchesAs old pointer (Err object.NoObject) new = ⊥
  FetchesAs old pointer (Err (object.Unreadable absent tried)) new = ⊥
  FetchesAs old pointer (Err object.Worn) new = FetchesNone old new × IsWornFor old 1
  FetchesAs old pointer (Err object.NoMemory) new = FetchesNone old new

  pub record FetchesShard (old : Shard R A) (pointer : Pointer) (result : Result Fetched ObjectFault) (new : Shard R A) : Type 0 where
    pub valid : Valid rack new
    pub part : part_of new ≡ part_of old
    pub pass : new.pass ≡ old.pass
    pub did : FetchesAs old pointer result new

-- so much is done, and then metaslabs may be looked at
pub record ButLooks (does : List Hold → Store → Type 0) (holds : List Hold) (store : Store) : Type 0 where
  pub front : List Hold
  pub back : List Hold
  pub are : holds ≡ front ++ back
  pub did : does front store
  pub looks : OnlyLooks back

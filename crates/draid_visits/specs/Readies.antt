-- How the rebuild of a metaslab is made to run, in holds: groups are committed as long as it has to wait.
use Rattle.std.specs.Prelude.{◌≡◌, ℕ, zero, suc, Bool, true, false, Option, Some, None, IsSomeAnd, Result, Ok, Err}
use Rattle.draid_names.specs.declared.pass_kind.PassKind.{PassKind}
use Rattle.draid_names.specs.declared.pass_kind.PassKind.TheVariants.{Rebuild}
use Rattle.draid_rack.specs.declared.Rack as racks
use Rattle.draid_area.specs.declared.Area as areas
use Rattle.draid_pass.specs.declared.pass.Pass.{Pass}
use Rattle.draid_segments.specs.Segments.{Pieces}
use Rattle.draid_session.specs.State.{Metaslab}
use Rattle.draid_shard.specs.Calls.{SameAreas}
use Rattle.draid_shard.specs.Changes.{KeepsBlocks}
use Rattle.draid_shard.specs.Fits.{Valid}
use Rattle.draid_shard.specs.Part.{Part}
use Rattle.draid_shard.specs.States.{part_of}
use Rattle.draid_shard.specs.declared.shard.Shard.{Shard}
use Rattle.draid_uber.specs.declared.uber.Uber.{Uber}
use Rattle.draid_pool.specs.Drifts.{KeepsGroups}
use Rattle.draid_pool.specs.Metaslabs.{IsMetaslab}
use Rattle.draid_pool.specs.Passes.{KeepsPass}
use Rattle.draid_pool.specs.Rounds.{HeldOnce}
use Rattle.draid_pool.specs.Shards.{Goes, SameBlocks}
use Rattle.draid_pool.specs.declared.fault.SyncFault.{SyncFault}
use Rattle.draid_pool.specs.declared.fault.Synced.{Synced}
use Rattle.draid_visits.specs.Steps.{IsRunningOf, ReadyIs}
use Rattle.draid_visits.specs.Visiting.{IsOnly}

-- ---- one hold

-- a metaslab has a rebuild
pub record MayReadyIn {R A : Type 0} (rack : racks.Ghosts R) (shard : Shard R A) : Type 0 where
  pub valid : Valid rack shard
  pub rebuild : IsSomeAnd shard.pass (λ (p : Pass). p.kind ≡ Rebuild)

-- It runs already or begins to, or it has to wait and nothing changed. All blocks, tickets, groups, arms and reserved events are as they were.
pub record ReadiesIn {R A : Type 0} (rack : racks.Ghosts R) (area : areas.Ghosts A) (runs : Bool) (old new : Shard R A) : Type 0 where
  pub valid : Valid rack new
  pub part : part_of new ≡ part_of old
  pub blocks : KeepsBlocks old new
  pub groups : KeepsGroups old new
  pub areas_are : SameAreas old new
  pub running : runs ≡ true → IsSomeAnd new.pass (IsRunningOf Rebuild)
  pub waits : runs ≡ false → new ≡ old
  pub goes : (part : Part) (pieces : Pieces) (x : Metaslab) → IsMetaslab rack area part pieces old x → Goes rack area part pieces x new (λ holds y. ReadyIs part runs holds × SameBlocks x y)

-- ---- behind a sync

-- what it keeps of a metaslab: the part, and the pass
pub record KeepsPart {R A : Type 0} (old new : Shard R A) : Type 0 where
  pub part : part_of new ≡ part_of old
  pub pass : KeepsPass old.pass new.pass

-- so of each, and none comes
abbrev pub KeepsParts : {R A : Type 0} → (last now : ℕ → Option (Shard R A)) → Type 0
KeepsParts {R} {A} last now = (m : ℕ) (new : Shard R A) → now m ≡ Some new → (old : Shard R A) × (last m ≡ Some old) × KeepsPart old new

-- ---- until it runs

-- a metaslab has the part that it had, and no pass of another kind if it had none
pub record KeptFor {R A : Type 0} (kind : PassKind) (old new : Shard R A) : Type 0 where
  pub part : part_of new ≡ part_of old
  pub only : IsOnly kind old → IsOnly kind new

-- so has each, and none comes
abbrev pub AllKeptFor : {R A : Type 0} → PassKind → (last now : ℕ → Option (Shard R A)) → Type 0
AllKeptFor {R} {A} kind last now = (m : ℕ) (new : Shard R A) → now m ≡ Some new → (old : Shard R A) × (last m ≡ Some old) × KeptFor kind old new

module _ {R A S : Type 0} (rack : racks.Ghosts R) (area : areas.Ghosts A) (last : S → ℕ → Option (Shard R A)) (went : S → ℕ → Shard R A → Shard R A → S → Type 0) (shared : Bool) (owns : ℕ → Bool)
    (syncs : S → Uber A → Option (Result Synced SyncFault) → S → Uber A → Type 0) (m : ℕ) where
  -- so many times it had to wait, and a group was committed each time
  abbrev pub Waited : ℕ → S → Uber A → S → Uber A → Type 0
  Waited zero a u b v = (b ≡ a) × (v ≡ u)
  Waited (suc n) a u b v =
      (mid : S) × (w : Uber A) × (seen : S) × (it : Synced) × Waited n a u mid w × HeldOnce rack area last went shared owns (ReadiesIn rack area false) mid m seen × syncs seen w (Some (Ok it)) b v

  -- and then it ran, or the sync was stopped, or was given up where open writes were in its way
  abbrev pub ReadiesBy : S → Uber A → Option (Result Unit SyncFault) → S → Uber A → Type 0
  ReadiesBy a u (Some (Ok done)) b v = (n : ℕ) × (mid : S) × Waited n a u mid v × HeldOnce rack area last went shared owns (ReadiesIn rack area true) mid m b
  ReadiesBy a u (Some (Err why)) b v =
      (n : ℕ) × (mid : S) × (w : Uber A) × (seen : S) × Waited n a u mid w × HeldOnce rack area last went shared owns (ReadiesIn rack area false) mid m seen × syncs seen w (Some (Err why)) b v
  ReadiesBy a u None b v =
      (n : ℕ) × (mid : S) × (w : Uber A) × (seen : S) × Waited n a u mid w × HeldOnce rack area last went shared owns (ReadiesIn rack area false) mid m seen × syncs seen w None b v

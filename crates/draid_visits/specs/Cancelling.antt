-- What a cancel does to a metaslab in a hold, and to a pool.
use Rattle.std.specs.Prelude.{◌≡◌, ℕ, Bool, List, Option, Some, None}
use Rattle.draid_rack.specs.declared.Rack as racks
use Rattle.draid_area.specs.declared.Area as areas
use Rattle.draid_pass.specs.declared.pass.Pass.{Pass}
use Rattle.draid_segments.specs.Segments.{Pieces}
use Rattle.draid_session.specs.Holds.{Hold}
use Rattle.draid_session.specs.Passes as passes
use Rattle.draid_session.specs.State.{Metaslab, State, Store}
use Rattle.draid_shard.specs.Calls.{SameAreas}
use Rattle.draid_shard.specs.Changes.{KeepsBlocks}
use Rattle.draid_shard.specs.Fits.{Valid}
use Rattle.draid_shard.specs.Part.{Part}
use Rattle.draid_shard.specs.States.{part_of}
use Rattle.draid_shard.specs.declared.shard.Shard.{Shard}
use Rattle.draid_pool.specs.Drifts.{KeepsGroups}
use Rattle.draid_pool.specs.Metaslabs.{IsMetaslab}
use Rattle.draid_pool.specs.Rounds.{HeldEach}
use Rattle.draid_pool.specs.Syncing.{KeepsCommitted, Turns}

-- so many passes ended, and nothing else changed that a thread has of its own
abbrev pub CancelDoes : State → ℕ → List Hold → Store → Type 0
CancelDoes x ended holds new = (new ≡ x.store) × passes.Cancels x.geometry x.perms ended holds

-- how many passes there are
abbrev pub passes_of : Option Pass → ℕ
passes_of None = 0
passes_of (Some pass) = 1

-- The pass of a metaslab ended, if it had one. All blocks, tickets, groups, arms and reserved events are as they were.
pub record CancelsIn {R A : Type 0} (rack : racks.Ghosts R) (area : areas.Ghosts A) (old : Shard R A) (ended : ℕ) (new : Shard R A) : Type 0 where
  pub valid : Valid rack new
  pub part : part_of new ≡ part_of old
  pub blocks : KeepsBlocks old new
  pub groups : KeepsGroups old new
  pub areas_are : SameAreas old new
  pub ended_are : ended ≡ passes_of old.pass
  pub none : new.pass ≡ None
  pub turns : (part : Part) (pieces : Pieces) (x : Metaslab) → IsMetaslab rack area part pieces old x
      → Turns rack area part pieces x new (λ hold y. passes.CancelsAt part.geometry part.perms part.number hold ended × KeepsCommitted x.world y.world)

-- so in each of so many metaslabs, and so many passes ended in all
abbrev pub CancelsEach : {R A S : Type 0} → racks.Ghosts R → areas.Ghosts A → (S → ℕ → Option (Shard R A)) → (S → ℕ → Shard R A → Shard R A → S → Type 0) → Bool → (ℕ → Bool) → (count : ℕ) → S → (ended : ℕ) → S → Type 0
CancelsEach rack area last went shared owns count a ended b = HeldEach rack area last went shared owns (λ some x y. CancelsIn rack area x some y) count a ended b

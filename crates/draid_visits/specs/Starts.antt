-- How the visit of a metaslab begins, in a hold: its pass goes on or is planned.
use Rattle.std.specs.Prelude.{◌≡◌, ◌≤◌, ⊤, ℕ, Bool, Option, Some, IfErr, IfOk, IsSomeAnd, OnErr, OnOk, None, Result, Ok, Err}
use Rattle.draid_names.specs.declared.pass_kind.PassKind.{PassKind}
use Rattle.draid_rack.specs.declared.Rack as racks
use Rattle.draid_area.specs.declared.Area as areas
use Rattle.draid_spec.specs.Geometry.{metaslab_stripes}
use Rattle.draid_pass.specs.declared.pass.Pass.{Pass}
use Rattle.draid_segments.specs.Segments.{Pieces}
use Rattle.draid_session.specs.State.{Metaslab}
use Rattle.draid_shard.specs.Calls.{SameAreas}
use Rattle.draid_shard.specs.Changes.{KeepsBlocks}
use Rattle.draid_shard.specs.Fits.{Valid}
use Rattle.draid_shard.specs.Part.{Part}
use Rattle.draid_shard.specs.States.{part_of}
use Rattle.draid_shard.specs.declared.shard.Shard.{Shard}
use Rattle.draid_passing.specs.Passing.{IsPlanRefused}
use Rattle.draid_passing.specs.declared.fault.PlanFault.{PlanFault}
use Rattle.draid_passing.specs.declared.fault.PlanFault.TheVariants as plan
use Rattle.draid_pool.specs.Drifts.{KeepsGroups}
use Rattle.draid_pool.specs.Metaslabs.{IsMetaslab}
use Rattle.draid_pool.specs.Rounds.{HeldOnce}
use Rattle.draid_pool.specs.Shards.{Goes, SameBlocks}
use Rattle.draid_pool.specs.declared.fault.SyncFault.TheVariants as sync
use Rattle.draid_visits.specs.Steps.{StartIs}
use Rattle.draid_visits.specs.Visiting.{IsOnly}
use Rattle.draid_visits.specs.declared.starting.Begun.{Begun}
use Rattle.draid_visits.specs.declared.starting.Begun.TheVariants as begun

-- the metaslab of a number is so, as it was left
abbrev pub LeftSo : {R A : Type 0} → ℕ → (Shard R A → Type 0) → (ℕ → Option (Shard R A)) → Type 0
LeftSo {R} {A} m is last = (shard : Shard R A) × (last m ≡ Some shard) × is shard

-- ---- one hold

-- a pass of a kind may go on or be planned
pub record MayStartIn {R A : Type 0} (rack : racks.Ghosts R) (kind : PassKind) (shard : Shard R A) : Type 0 where
  pub valid : Valid rack shard
  pub alone : IsOnly kind shard

-- It goes on or is planned at a stripe, or why none is. All blocks, tickets, groups, arms and reserved events are as they were.
pub record StartsIn {R A : Type 0} (rack : racks.Ghosts R) (area : areas.Ghosts A) (kind : PassKind) (old : Shard R A) (result : Result ℕ PlanFault) (new : Shard R A) : Type 0 where
  pub valid : Valid rack new
  pub part : part_of new ≡ part_of old
  pub blocks : KeepsBlocks old new
  pub groups : KeepsGroups old new
  pub areas_are : SameAreas old new
  pub pass : OnOk result (IsSomeAnd new.pass (λ (p : Pass). p.kind ≡ kind))
  pub none : OnErr result (new.pass ≡ None)
  pub idle : OnErr result (old.pass ≡ None)
  pub refused : IfErr result (IsPlanRefused old kind)
  pub low : IfOk result (λ at. at ≤ metaslab_stripes old.geometry)
  pub goes : (part : Part) (pieces : Pieces) (x : Metaslab) → IsMetaslab rack area part pieces old x → Goes rack area part pieces x new (λ holds y. StartIs part kind result holds × SameBlocks x y)

-- ---- its answer

-- no other pass is in the way
abbrev pub IsNotRunning : Result ℕ PlanFault → Type 0
IsNotRunning (Err (plan.PassRunning number)) = ⊥
IsNotRunning result = ⊤

abbrev pub IsBegun : Result ℕ PlanFault → Begun → Type 0
IsBegun (Ok at) (begun.At stripe) = stripe ≡ at
IsBegun (Err plan.Nothing) begun.Nothing = ⊤
IsBegun (Err (plan.Worn events)) (begun.Stopped why) = why ≡ sync.Worn
IsBegun (Err plan.Last) (begun.Stopped why) = why ≡ sync.Last
IsBegun (Err plan.NoMemory) (begun.Stopped why) = why ≡ sync.NoMemory
IsBegun result b = ⊥

-- a metaslab was held for it
abbrev pub BeginsBy : {R A S : Type 0} → racks.Ghosts R → areas.Ghosts A → (S → ℕ → Option (Shard R A)) → (S → ℕ → Shard R A → Shard R A → S → Type 0) → Bool → (ℕ → Bool) → PassKind → ℕ → S → Begun → S → Type 0
BeginsBy rack area last went shared owns kind m a result b = (came : Result ℕ PlanFault) × IsBegun came result × HeldOnce rack area last went shared owns (λ x y. StartsIn rack area kind x came y) a m b

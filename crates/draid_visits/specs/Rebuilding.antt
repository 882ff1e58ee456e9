-- What a rebuild and a scrub do to a pool, and what they leave.
use Rattle.std.specs.Prelude.{◌≡◌, ◌<◌, ◌⊎◌, ⊤, ℕ, Bool, true, false, List, None, Option, Some, Result, Ok, Err, slice_get}
use Rattle.draid_names.specs.declared.pass_kind.PassKind.{PassKind}
use Rattle.draid_names.specs.declared.pass_kind.PassKind.TheVariants.{Heal, Rebuild}
use Rattle.draid_pass.specs.declared.pass.Pass.{Pass}
use Rattle.draid_shard.specs.declared.shard.Shard.{Shard}
use Rattle.draid_session.specs.Holds.{Hold}
use Rattle.draid_session.specs.Passes as passes
use Rattle.draid_session.specs.Phases.{Broke, Starved, WasLast, WasWorn}
use Rattle.draid_session.specs.State.{State, Store}
use Rattle.draid_pool.specs.declared.fault.SyncFault.{SyncFault}
use Rattle.draid_pool.specs.declared.fault.SyncFault.TheVariants as sync
use Rattle.draid_pool.specs.declared.pool.Pool.{Pool}
use Rattle.draid_visits.specs.Steps.{IsRebuiltIn}
use Rattle.draid_visits.specs.Visiting.{AreAll, IsOnly, NoPasses, RunsPass}
use Rattle.draid_visits.specs.declared.progress.Progress.{Progress}
use Rattle.draid_visits.specs.declared.progress.Visit.{Visit}
use Rattle.draid_visits.specs.declared.progress.Visit.TheVariants as visit
use Rattle.draid_visits.specs.declared.rebuilding.MendFault.{MendFault}
use Rattle.draid_visits.specs.declared.rebuilding.MendFault.TheVariants as fault
use Rattle.draid_visits.specs.declared.rebuilding.Mended.{Mended}

-- stripes were lent, or why not, and nothing else changed that a thread has of its own
abbrev pub RebuildDoes : State → Option ℕ → Result Mended MendFault → List Hold → Store → Type 0
RebuildDoes x limit (Ok it) holds new = (new ≡ x.store) × passes.RebuildReplies x.geometry x.perms limit it.from it.units it.errors it.paused holds
RebuildDoes x limit (Err fault.Nothing) holds new = (new ≡ x.store) × passes.RebuildsNothing x.geometry x.perms limit holds
RebuildDoes x limit (Err (fault.PassThere metaslab number)) holds new = (new ≡ x.store) × passes.FindsOther x.geometry x.perms Rebuild holds metaslab number
RebuildDoes x limit (Err fault.Worn) holds new = (new ≡ x.store) × passes.RebuildStops x.geometry x.perms limit holds WasWorn
RebuildDoes x limit (Err fault.Last) holds new = (new ≡ x.store) × passes.RebuildStops x.geometry x.perms limit holds WasLast
RebuildDoes x limit (Err fault.Shelf) holds new = (new ≡ x.store) × passes.RebuildStops x.geometry x.perms limit holds Broke
RebuildDoes x limit (Err fault.NoMemory) holds new = (new ≡ x.store) × passes.RebuildStarves x.geometry x.perms limit holds

-- and so blocks
abbrev pub ScrubDoes : State → Option ℕ → Result Mended MendFault → List Hold → Store → Type 0
ScrubDoes x limit (Ok it) holds new = (new ≡ x.store) × passes.ScrubReplies x.geometry x.perms limit it.from it.units it.repaired it.errors it.paused holds
ScrubDoes x limit (Err fault.Nothing) holds new = ⊥
ScrubDoes x limit (Err (fault.PassThere metaslab number)) holds new = (new ≡ x.store) × passes.FindsOther x.geometry x.perms Heal holds metaslab number
ScrubDoes x limit (Err fault.Worn) holds new = (new ≡ x.store) × passes.ScrubStops x.geometry x.perms limit holds WasWorn
ScrubDoes x limit (Err fault.Last) holds new = (new ≡ x.store) × passes.ScrubStops x.geometry x.perms limit holds WasLast
ScrubDoes x limit (Err fault.Shelf) holds new = ⊥
ScrubDoes x limit (Err fault.NoMemory) holds new = (new ≡ x.store) × passes.ScrubStops x.geometry x.perms limit holds Starved

-- ---- the answer

pub record IsMended (p : Progress) (paused : Bool) (it : Mended) : Type 0 where
  pub from : p.from ≡ Some it.from
  pub units : it.units ≡ p.stripes
  pub repaired : it.repaired ≡ p.repaired
  pub errors : it.errors ≡ p.errors
  pub paused_is : it.paused ≡ paused

abbrev pub stopped_by : SyncFault → MendFault
stopped_by sync.Worn = fault.Worn
stopped_by sync.Last = fault.Last
stopped_by sync.Shelf = fault.Shelf
stopped_by sync.NoMemory = fault.NoMemory

-- what was done; or nothing was, since others had taken away what there was to do
abbrev pub IsDone : Progress → Bool → Result Mended MendFault → Type 0
IsDone p paused (Ok it) = IsMended p paused it
IsDone p paused (Err cause) = (cause ≡ fault.Nothing) × (p.from ≡ None)

-- by the end to which the visits came
abbrev pub IsAnswer : Visit → Progress → Result Mended MendFault → Type 0
IsAnswer visit.Over p result = IsDone p false result
IsAnswer visit.Paused p (Ok it) = IsMended p true it
IsAnswer (visit.Stopped why) p (Err cause) = cause ≡ stopped_by why
IsAnswer end p result = ⊥

-- ---- the passes behind it, whatever is known of the pool

-- a metaslab has a pass of this kind and number
pub record HasPass {R A : Type 0} (kind : PassKind) (number : ℕ) (shard : Shard R A) : Type 0 where
  pub pass : Pass
  pub has : shard.pass ≡ Some pass
  pub kind_is : pass.kind ≡ kind
  pub number_is : number ≡ pass.number

-- this is the lowest that has one
pub record IsLowestPass {R A : Type 0} (kind : PassKind) (metaslab number : ℕ) (pool : Pool R A) : Type 0 where
  pub shard : Shard R A
  pub there : slice_get pool.metaslabs.shards.items metaslab ≡ Some shard
  pub has : HasPass kind number shard
  pub lower : (m n : ℕ) (other : Shard R A) → m < metaslab → slice_get pool.metaslabs.shards.items m ≡ Some other → HasPass kind n other → ⊥

-- the first metaslab that a scrub visits: the lowest with a scrub, or where none has one the first of all
abbrev pub IsFirstScrub : {R A : Type 0} → ℕ → Pool R A → Type 0
IsFirstScrub first pool = ((number : ℕ) × IsLowestPass Heal first number pool) ⊎ ((first ≡ 0) × AreAll pool (IsOnly Rebuild))

-- a pass that paused runs in a metaslab; behind one that didn't none has a pass
abbrev pub RunsWhere : {R A : Type 0} → PassKind → Bool → Pool R A → Type 0
RunsWhere kind true pool = RunsPass kind pool
RunsWhere kind false pool = NoPasses pool

-- no metaslab has a pass, nor an arm that a rebuild would make good
pub record NothingToRebuild {R A : Type 0} (pool : Pool R A) : Type 0 where
  pub idle : NoPasses pool
  pub none : AreAll pool (λ shard. IsRebuiltIn shard → ⊥)

abbrev pub RebuildIs : {R A : Type 0} → Result Mended MendFault → Pool R A → Pool R A → Type 0
RebuildIs (Ok it) old new = RunsWhere Rebuild it.paused new
RebuildIs (Err fault.Nothing) old new = (new ≡ old) × NothingToRebuild new
RebuildIs (Err (fault.PassThere metaslab number)) old new = (new ≡ old) × IsLowestPass Heal metaslab number new
RebuildIs result old new = ⊤

abbrev pub ScrubIs : {R A : Type 0} → Result Mended MendFault → Pool R A → Pool R A → Type 0
ScrubIs (Ok it) old new = RunsWhere Heal it.paused new
ScrubIs (Err fault.Nothing) old new = ⊥
ScrubIs (Err fault.Shelf) old new = ⊥
ScrubIs (Err (fault.PassThere metaslab number)) old new = (new ≡ old) × IsLowestPass Rebuild metaslab number new
ScrubIs result old new = ⊤

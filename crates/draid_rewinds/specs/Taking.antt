-- What the making of a checkpoint does, by its answer.
use Rattle.std.specs.Prelude.{◌≡◌, ◌≢◌, ◌+◌, ◌≤◌, ◌⊎◌, ◌++◌, ℕ, List, [], None, Some, Result, Ok, Err, nat_eq}
use Rattle.std.specs.HashMap.{get}
use Rattle.draid_rack.specs.declared.Rack as racks
use Rattle.draid_area.specs.declared.Area as areas
use Rattle.draid_checkpoint.specs.Check.{Point}
use Rattle.draid_objects.specs.Marks.{Made, check_by}
use Rattle.draid_session.specs.Groups as groups
use Rattle.draid_session.specs.Holds.{Hold}
use Rattle.draid_session.specs.Phases.{Chain, Went, WasLast, WasWorn}
use Rattle.draid_session.specs.Points.{HasPoint, marked}
use Rattle.draid_session.specs.State.{State, Store}
use Rattle.draid_session.specs.Taking.{StopsBefore, TakeStops}
use Rattle.draid_pool.specs.Pools.{HasNames, Represents, group_in}
use Rattle.draid_pool.specs.Syncing.{Phase, end_of}
use Rattle.draid_pool.specs.declared.fault.SyncFault.{SyncFault}
use Rattle.draid_pool.specs.declared.fault.SyncFault.TheVariants as sync
use Rattle.draid_pool.specs.declared.fault.Synced.{Synced}
use Rattle.draid_pool.specs.declared.pool.Pool.{Pool}
use Rattle.draid_rewinds.specs.declared.fault.TakeFault.{TakeFault}
use Rattle.draid_rewinds.specs.declared.fault.TakeFault.TheVariants as fault

-- ---- the steps

-- a checkpoint of the group behind the committed one, of which nothing is dropped, has room for each object's block, and a check record can name them all
pub record HasRoomFor {R A : Type 0} (pool : Pool R A) (point : Point) : Type 0 where
  pub group_is : point.group ≡ Some (group_in pool + 1)
  pub new : point.drops ≡ []
  pub objects : ℕ
  pub names : HasNames (get nat_eq pool.own.objects) objects
  pub room : objects ≤ point.spare
  pub few : objects ≤ 524_288

-- where the pool had no checkpoint it has one of this group
pub record MakesPoint {R A : Type 0} (rack : racks.Ghosts R) (area : areas.Ghosts A) (new : Pool R A) (group : ℕ) (x : State) : Type 0 where
  pub none : check_by x.store.marks ≡ None
  pub represents : Represents rack area new (record x { store = marked (Made group) x.store })

-- it is sealed and committed, or that was stopped
abbrev pub GoesOnDoes : State → ℕ → Result Synced SyncFault → List Hold → Store → Type 0
GoesOnDoes x group (Ok it) holds new =
    (it.group ≡ group) × Phase x (Chain (groups.SealPhase x.geometry x.perms group it.thin) (Chain (groups.Names x.geometry x.perms group) (groups.CommitPhase x.geometry x.perms group))) Went holds new
GoesOnDoes x group (Err why) holds new =
    (thin : ℕ) × Phase x (Chain (groups.SealPhase x.geometry x.perms group thin) (Chain (groups.Names x.geometry x.perms group) (groups.CommitPhase x.geometry x.perms group))) (end_of {T = Synced} (Err why)) holds new

-- ---- where no group is closing, and there is no checkpoint

-- The group behind the committed one is closed in each metaslab, a checkpoint is made of it, and it is committed; or that was stopped.
abbrev pub TakesDoes : State → Result Synced SyncFault → List Hold → Store → Type 0
TakesDoes x (Ok it) holds new =
    (check_by x.store.marks ≡ None) × (it.group ≡ x.committed + 1) × (new ≡ marked (Made it.group) x.store) × groups.Group x.geometry x.perms it.group it.thin holds Went
TakesDoes x (Err why) holds new =
    (check_by x.store.marks ≡ None) × (((new ≡ x.store) × groups.ClosePhase x.geometry x.perms (x.committed + 1) holds (end_of {T = Synced} (Err why)))
    ⊎ ((why ≢ sync.Worn) × (why ≢ sync.Last) × (new ≡ marked (Made (x.committed + 1)) x.store) × ((front : List Hold) × (back : List Hold) × (thin : ℕ) × (holds ≡ front ++ back) × groups.ClosePhase x.geometry x.perms (x.committed + 1) front Went
    × Chain (groups.SealPhase x.geometry x.perms (x.committed + 1) thin) (Chain (groups.Names x.geometry x.perms (x.committed + 1)) (groups.CommitPhase x.geometry x.perms (x.committed + 1))) back (end_of {T = Synced} (Err why)))))

-- ---- the whole

-- A checkpoint was made of the group that was committed. There is one, just where that is said, and a group that was closing is committed; or there is none, and no room for one. Or a
-- sync was stopped: by a worn metaslab or the last number before the checkpoint was made; by a device or for want of memory before that or behind it.
abbrev pub TakeDoes : State → Result ℕ TakeFault → List Hold → Store → Type 0
TakeDoes x (Ok group) holds new =
    (thin : ℕ) × (check_by x.store.marks ≡ None) × (new ≡ marked (Made group) x.store) × groups.Syncs x.geometry x.perms group thin holds Went
TakeDoes x (Err (fault.Exists group)) holds new = (new ≡ x.store) × HasPoint x.store.marks group × groups.Finishes x.geometry x.perms holds Went
TakeDoes x (Err fault.NoMemory) holds new = (new ≡ x.store) × (check_by x.store.marks ≡ None) × groups.Finishes x.geometry x.perms holds Went
TakeDoes x (Err (fault.Sync sync.Worn)) holds new = (new ≡ x.store) × StopsBefore x.geometry x.perms x.store holds WasWorn
TakeDoes x (Err (fault.Sync sync.Last)) holds new = (new ≡ x.store) × StopsBefore x.geometry x.perms x.store holds WasLast
TakeDoes x (Err (fault.Sync why)) holds new = TakeStops x.geometry x.perms x.store holds (end_of {T = ℕ} (Err why)) new

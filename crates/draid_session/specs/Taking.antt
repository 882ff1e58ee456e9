-- A checkpoint is made of the group that a sync commits, once that is closed in each metaslab.
use Rattle.std.specs.Prelude.{◌≡◌, ◌≢◌, ◌+◌, ◌⊎◌, ℕ, List, ◌∷◌, ◌++◌, None}
use Rattle.draid_spec.specs.declared.layout.Geometry.{Geometry}
use Rattle.draid_perm.specs.declared.perms.Perms.{Perms}
use Rattle.draid_objects.specs.Marks.{Made, check_by}
use Rattle.draid_session.specs.Groups.{ClosePhase, CommitPhase, Finishes, Names, SealPhase}
use Rattle.draid_session.specs.Holds.{Hold, LookedUber, OnUber, UberView}
use Rattle.draid_session.specs.Looks.{OnlyLooks}
use Rattle.draid_session.specs.Phases.{Chain, End, Starved, Went}
use Rattle.draid_session.specs.Points.{marked}
use Rattle.draid_session.specs.State.{Store}

module _ (geometry : Geometry) (perms : Perms) where
  -- a group that was closing is finished, and in closing the next the sync is stopped
  pub record StopsClosing (holds : List Hold) (end : End) : Type 0 where
    pub group : ℕ
    pub front : List Hold
    pub u : UberView
    pub back : List Hold
    pub are : holds ≡ front ++ OnUber u LookedUber ∷ back
    pub finishes : Finishes geometry perms front Went
    pub next : group ≡ u.committed + 1
    pub closes : ClosePhase geometry perms group back end

  -- It is stopped before its group is closed in each metaslab: as a group that was closing is finished; or behind that, where there is no checkpoint.
  abbrev pub StopsBefore : Store → List Hold → End → Type 0
  StopsBefore old holds end = (end ≢ Went) × (Finishes geometry perms holds end ⊎ ((check_by old.marks ≡ None) × StopsClosing holds end))

  -- it is stopped behind that, and the checkpoint stands
  pub record StopsBehind (old : Store) (holds : List Hold) (end : End) (new : Store) : Type 0 where
    pub group : ℕ
    pub thin : ℕ
    pub front : List Hold
    pub u : UberView
    pub close : List Hold
    pub back : List Hold
    pub are : holds ≡ front ++ OnUber u LookedUber ∷ (close ++ back)
    pub finishes : Finishes geometry perms front Went
    pub next : group ≡ u.committed + 1
    pub closes : ClosePhase geometry perms group close Went
    pub rest : Chain (SealPhase geometry perms group thin) (Chain (Names geometry perms group) (CommitPhase geometry perms group)) back end
    pub stopped : end ≢ Went
    pub none : check_by old.marks ≡ None
    pub made : new ≡ marked (Made group) old

  abbrev pub TakeStops : Store → List Hold → End → Store → Type 0
  TakeStops old holds end new = ((new ≡ old) × StopsBefore old holds end) ⊎ StopsBehind old holds end new

  -- want of memory, in the sync, before it, or for what the checkpoint itself needs
  abbrev pub TakeStarves : Store → List Hold → Store → Type 0
  TakeStarves old holds new =
      TakeStops old holds Starved new ⊎ ((new ≡ old) × (OnlyLooks holds ⊎ ((check_by old.marks ≡ None) × Finishes geometry perms holds Went)))

-- Objects go back to a checkpoint: the blocks that were born behind it are freed, and a sync follows.
use Rattle.std.specs.Prelude.{◌≡◌, ◌≢◌, ◌<◌, ◌+◌, ◌⊎◌, ⊤, ℕ, List, [], ◌∷◌, ◌++◌, Some, max}
use Rattle.draid_spec.specs.declared.layout.Geometry.{Geometry}
use Rattle.draid_perm.specs.declared.perms.Perms.{Perms}
use Rattle.draid_machine.specs.declared.event.Event.TheVariants as event
use Rattle.draid_machine.specs.declared.names.Held.{Held}
use Rattle.draid_machine.specs.declared.names.Key.{Key}
use Rattle.draid_machine.specs.declared.names.Stage.TheVariants.{Live}
use Rattle.draid_objects.specs.Changes.{Write, key_of, write_of}
use Rattle.draid_objects.specs.Marks.{GivenUp}
use Rattle.draid_session.specs.Checkpoints.{GoesBackTo}
use Rattle.draid_session.specs.Discarding.{FreesKey}
use Rattle.draid_session.specs.Groups.{Finishes, Syncs}
use Rattle.draid_session.specs.Holds.{Did, Hold, LookedUber, On, OnUber, UberView, View}
use Rattle.draid_session.specs.Phases.{End, Went}
use Rattle.draid_session.specs.State.{Store}

-- a live block was born behind a group
abbrev pub IsBornBehind : ℕ → View → Key → Type 0
IsBornBehind check v key = (h : Held) × (v.world.core.held key ≡ Some h) × (h.stage ≡ Live) × (check < h.birth)

-- such blocks are freed in a group, one after another
abbrev pub FreesBorn : ℕ → ℕ → List Hold → Type 0
FreesBorn check group [] = ⊤
FreesBorn check group (On v (Did (event.Free key freed) after) ∷ holds) = (freed ≡ group) × IsBornBehind check v key × FreesBorn check group holds
FreesBorn check group (hold ∷ holds) = ⊥

-- What a thread that goes back in a group has of its own then.
pub record Reverts (group : ℕ) (old new : Store) : Type 0 where
  pub goes : GoesBackTo old.marks group old new
  pub marks : new.marks ≡ GivenUp group ∷ old.marks
  pub seq : new.seq ≡ old.seq
  pub floor : new.floor ≡ max group old.floor

module _ (geometry : Geometry) (perms : Perms) where
  -- A group that is closing is finished, and the uberblock is looked at; in the group behind the committed one the younger blocks are freed; and the sync comes to this end.
  pub record GoesBack (old new : Store) (group thin : ℕ) (holds : List Hold) (end : End) : Type 0 where
    pub front : List Hold
    pub u : UberView
    pub frees : List Hold
    pub back : List Hold
    pub are : holds ≡ front ++ (OnUber u LookedUber ∷ (frees ++ back))
    pub finishes : Finishes geometry perms front Went
    pub reverts : Reverts (u.committed + 1) old new
    pub frees_are : FreesBorn reverts.goes.check.group (u.committed + 1) frees
    pub all : (object : ℕ) (w : Write) → write_of old.changes object ≡ Some w → reverts.goes.check.group < w.birth → FreesKey (key_of w) frees
    pub syncs : Syncs geometry perms group thin back end

  -- it is stopped, before the change or behind it
  abbrev pub BackStops : Store → List Hold → End → Store → Type 0
  BackStops old holds end new =
      ((new ≡ old) × (end ≢ Went) × Finishes geometry perms holds end)
      ⊎ ((group : ℕ) × (thin : ℕ) × (end ≢ Went) × GoesBack old new group thin holds end)

-- A checkpoint is given up: the blocks that it alone keeps are freed, and a sync follows.
use Rattle.std.specs.Prelude.{◌≡◌, ◌≢◌, ◌+◌, ◌⊎◌, ⊤, ℕ, true, List, [], ◌∷◌, ◌++◌, Some, None}
use Rattle.draid_spec.specs.declared.layout.Geometry.{Geometry}
use Rattle.draid_perm.specs.declared.perms.Perms.{Perms}
use Rattle.draid_machine.specs.declared.event.Event.TheVariants as event
use Rattle.draid_machine.specs.declared.names.Key.{Key}
use Rattle.draid_objects.specs.Marks.{Check, check_by}
use Rattle.draid_session.specs.Groups.{Finishes, Syncs}
use Rattle.draid_session.specs.Holds.{Did, Hold, LookedUber, On, OnUber, UberView}
use Rattle.draid_session.specs.Phases.{End, Went}
use Rattle.draid_session.specs.Points.{given_up}
use Rattle.draid_session.specs.State.{Store}

-- the checkpoint alone keeps a block
abbrev pub IsKeptAlone : Store → Key → Type 0
IsKeptAlone store key = (check : Check) × (check_by store.marks ≡ Some check) × (check.dropped key ≡ true)

-- such blocks are freed in a group, one after another
abbrev pub FreesKept : Store → ℕ → List Hold → Type 0
FreesKept store group [] = ⊤
FreesKept store group (On v (Did (event.Free key freed) after) ∷ holds) = (freed ≡ group) × IsKeptAlone store key × FreesKept store group holds
FreesKept store group (hold ∷ holds) = ⊥

-- a block's free is among them
abbrev pub FreesKey : Key → List Hold → Type 0
FreesKey key [] = ⊥
FreesKey key (On v (Did (event.Free k freed) after) ∷ holds) = (k ≡ key) ⊎ FreesKey key holds
FreesKey key (hold ∷ holds) = FreesKey key holds

module _ (geometry : Geometry) (perms : Perms) where
  -- A group that is closing is finished, and the uberblock is looked at; in the group behind the committed one the blocks are freed; and the sync comes to this end.
  pub record Discards (old : Store) (at group thin : ℕ) (frees holds : List Hold) (end : End) : Type 0 where
    pub front : List Hold
    pub u : UberView
    pub back : List Hold
    pub are : holds ≡ front ++ (OnUber u LookedUber ∷ (frees ++ back))
    pub at_is : at ≡ u.committed + 1
    pub has : check_by old.marks ≢ None
    pub finishes : Finishes geometry perms front Went
    pub frees_are : FreesKept old at frees
    pub all : (key : Key) → IsKeptAlone old key → FreesKey key frees
    pub syncs : Syncs geometry perms group thin back end

  -- it is stopped, before the change or behind it
  abbrev pub DiscardStops : Store → List Hold → End → Store → Type 0
  DiscardStops old holds end new =
      ((new ≡ old) × (end ≢ Went) × Finishes geometry perms holds end)
      ⊎ ((at : ℕ) × (group : ℕ) × (thin : ℕ) × (frees : List Hold) × (new ≡ given_up at old) × (end ≢ Went) × Discards old at group thin frees holds end)

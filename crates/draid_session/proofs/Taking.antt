-- A sync that makes a checkpoint and is stopped is a sync that is stopped.
use Rattle.std.proofs.Common.{◌≡◌, ◌⊎◌, ◌++◌, ℕ, List, ◌∷◌, None, inl, inr, refl}
use Rattle.draid_spec.specs.declared.layout.Geometry.{Geometry}
use Rattle.draid_perm.specs.declared.perms.Perms.{Perms}
use Rattle.draid_objects.specs.Marks.{Made, check_by}
use Rattle.draid_session.specs.Groups.{SyncStops}
use Rattle.draid_session.specs.Holds.{Hold, LookedUber, OnUber}
use Rattle.draid_session.specs.Phases.{End}
use Rattle.draid_session.specs.Points.{marked}
use Rattle.draid_session.specs.State.{Store}
use Rattle.draid_session.specs.Taking.{StopsBefore, StopsBehind, TakeStops}

-- one was made of some group, or not
abbrev pub MayHaveMade : Store → Store → Type 0
MayHaveMade old new = (new ≡ old) ⊎ ((group : ℕ) × (check_by old.marks ≡ None) × (new ≡ marked (Made group) old))

module _ (geometry : Geometry) (perms : Perms) (old : Store) (holds : List Hold) (end : End) where
  pub before_stops : StopsBefore geometry perms old holds end → SyncStops geometry perms holds end
  before_stops (stopped, inl ends) = record { group = 0; thin = 0; stopped = stopped; syncs = inr (stopped, ends) }
  before_stops (stopped, inr (none, c)) = record {
    group = c.group;
    thin = 0;
    stopped = stopped;
    syncs = inl (c.front, OnUber c.u LookedUber ∷ c.back, c.are, c.finishes, (c.u, c.back, refl, c.next, inr (stopped, c.closes)));
  }

  behind_stops : (new : Store) → StopsBehind geometry perms old holds end new → SyncStops geometry perms holds end
  behind_stops new s = record {
    group = s.group;
    thin = s.thin;
    stopped = s.stopped;
    syncs = inl (s.front, OnUber s.u LookedUber ∷ (s.close ++ s.back), s.are, s.finishes, (s.u, s.close ++ s.back, refl, s.next, inl (s.close, s.back, refl, s.closes, s.rest)));
  }

  pub take_stops : (new : Store) → TakeStops geometry perms old holds end new → SyncStops geometry perms holds end × MayHaveMade old new
  take_stops new (inl (same, s)) = (before_stops s, inl same)
  take_stops new (inr s) = (behind_stops new s, inr (s.group, s.none, s.made))

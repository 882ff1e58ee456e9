-- A closing group is finished, something befalls the checkpoint, and a sync comes to its end.
use Rattle.std.proofs.Common.{◌≡◌, ◌≢◌, ◌+◌, ◌++◌, ◌≤◌, inl, inr, ℕ, List, ◌∷◌, Some, None, Ok, Err, refl, subst}
use Rattle.std.specs.Prelude.{Result}
use Rattle.draid_rack.specs.declared.Rack as racks
use Rattle.draid_area.specs.declared.Area as areas
use Rattle.draid_spec.specs.declared.layout.Geometry.{Geometry}
use Rattle.draid_perm.specs.declared.perms.Perms.{Perms}
use Rattle.draid_machine.proofs.Small.{none_some}
use Rattle.draid_objects.specs.Marks.{check_by}
use Rattle.draid_session.specs.Discarding.{Discards}
use Rattle.draid_session.specs.Follows.{Follows}
use Rattle.draid_session.specs.GoingBack.{GoesBack}
use Rattle.draid_session.specs.Groups as groups
use Rattle.draid_session.specs.Holds.{Hold, LookedUber, OnUber, UberView}
use Rattle.draid_session.specs.Opening.{HasObjects}
use Rattle.draid_session.specs.Phases.{End, Went}
use Rattle.draid_session.specs.Points.{HasPoint}
use Rattle.draid_session.specs.State.{State, Store}
use Rattle.draid_uber.specs.Uber.{point_of}
use Rattle.draid_pool.specs.Carries.{CarriesOut}
use Rattle.draid_pool.specs.Objects.{blocks_of}
use Rattle.draid_pool.specs.Pools.{Represents}
use Rattle.draid_pool.specs.Syncing.{AreIdle, Phase, SyncDoes, end_of}
use Rattle.draid_pool.specs.declared.fault.SyncFault.{SyncFault}
use Rattle.draid_pool.specs.declared.fault.SyncFault.TheVariants as sync
use Rattle.draid_pool.specs.declared.fault.Synced.{Synced}
use Rattle.draid_pool.specs.Whole.{IsWhole}
use Rattle.draid_pool.specs.declared.pool.Pool.{Pool}
use Rattle.draid_pool.proofs.Following.{follows_but}
use Rattle.draid_pool.proofs.Points.{none_stands, point_stands}
use Rattle.draid_pool.proofs.Steps.{carries_so, follows_on, own_of, same_layout, settled}
use Rattle.draid_pool.proofs.SyncSteps.{not_went}
use Rattle.draid_rewinds.specs.Back.{DiscardDoes, LetsGo, Reverted, RewindDoes}
use Rattle.draid_rewinds.specs.declared.fault.BackFault.TheVariants as fault
use Rattle.draid_rewinds.proofs.Going.{end_same}
use Rattle.draid_rewinds.proofs.GivenUp.{has_point}
use Rattle.draid_rewinds.proofs.Settled.{low_idle}

-- ---- syncs

-- a sync came to this end
abbrev pub SyncEnds : Geometry → Perms → Result Synced SyncFault → List Hold → Type 0
SyncEnds geometry perms (Ok it) holds = groups.Syncs geometry perms it.group it.thin holds Went
SyncEnds geometry perms (Err why) holds = (group : ℕ) × (thin : ℕ) × groups.Syncs geometry perms group thin holds (end_of {T = ℕ} (Err why))

sync_ends : (z : State) (result : Result Synced SyncFault) (holds : List Hold) (store : Store) → SyncDoes z result holds store → (store ≡ z.store) × SyncEnds z.geometry z.perms result holds
sync_ends z (Ok it) holds store d = d
sync_ends z (Err sync.Worn) holds store d = (d.0, (d.1.group, d.1.thin, d.1.syncs))
sync_ends z (Err sync.Last) holds store d = (d.0, (d.1.group, d.1.thin, d.1.syncs))
sync_ends z (Err sync.Shelf) holds store d = (d.0, (d.1.group, d.1.thin, d.1.syncs))
sync_ends z (Err sync.NoMemory) holds store d = (d.0, (d.1.group, d.1.thin, d.1.syncs))

module _ {R A : Type 0} (rack : racks.Ghosts R) (area : areas.Ghosts A) where
  -- ---- behind the finishing

  pub kept_store : (mid : Pool R A) (x : State) → (end : End) → (c : CarriesOut rack area mid x (Phase x (groups.Finishes x.geometry x.perms) end)) → c.reached.store ≡ x.store
  kept_store mid x end c = (same_layout c.holds x c.reached c.follows).store

  -- the uberblock has no checkpoint then, and there is none
  pub none_after : (mid : Pool R A) (x : State) (end : End) (c : CarriesOut rack area mid x (Phase x (groups.Finishes x.geometry x.perms) end)) → (point_of mid.uber).group ≡ None → check_by x.store.marks ≡ None
  none_after mid x end c none =
      let s = settled rack area mid x (Phase x (groups.Finishes x.geometry x.perms) end) c c.done.0 in
      subst (λ (t : Store). check_by t.marks ≡ None) (kept_store mid x end c) (none_stands area mid.uber c.reached (blocks_of c.reached.metaslabs) s.stands.pieces s.stands.uber s.stands.holds s.stands.groups none)

  -- or it has one, and so there is
  pub some_after : (mid : Pool R A) (x : State) (end : End) (c : CarriesOut rack area mid x (Phase x (groups.Finishes x.geometry x.perms) end)) (own : ℕ) → (point_of mid.uber).group ≡ Some own → HasPoint x.store.marks own
  some_after mid x end c own some =
      let s = settled rack area mid x (Phase x (groups.Finishes x.geometry x.perms) end) c c.done.0 in
      subst (λ (t : Store). HasPoint t.marks own) (kept_store mid x end c)
      (has_point c.reached.store.marks (point_of mid.uber).group own some (point_stands area mid.uber c.reached (blocks_of c.reached.metaslabs) s.stands.pieces s.stands.uber s.stands.holds s.stands.groups))

  pub has_check : (x : State) (own : ℕ) → HasPoint x.store.marks own → check_by x.store.marks ≢ None
  has_check x own has none = none_some (check_by x.store.marks) has.0 none has.1

  -- ---- the three parts

  module _ (Q : ℕ → Store → List Hold → Store → Type 0) where
    pub record Comes (new : Pool R A) (x : State) (result : Result Synced SyncFault) : Type 0 where
      pub front : List Hold
      pub u : UberView
      pub frees : List Hold
      pub back : List Hold
      pub at : ℕ
      pub at_is : at ≡ u.committed + 1
      pub store : Store
      pub reached : State
      pub finishes : groups.Finishes x.geometry x.perms front Went
      pub done : Q at x.store frees store
      pub syncs : SyncEnds x.geometry x.perms result back
      pub follows : Follows (front ++ (OnUber u LookedUber ∷ (frees ++ back))) x reached
      pub represents : Represents rack area new (record reached { store = store })

    pub comes : (old mid late new : Pool R A) (x : State) (result : Result Synced SyncFault) → Represents rack area old x → IsWhole rack area mid → AreIdle mid.metaslabs.shards.items → CarriesOut rack area mid x (Phase x (groups.Finishes x.geometry x.perms) Went)
        → ((y : State) → Represents rack area mid y → y.store.floor ≤ y.committed + 1 → CarriesOut rack area late y (Q (y.committed + 1) y.store))
        → ((z : State) → Represents rack area late z → CarriesOut rack area new z (SyncDoes z result)) → Comes new x result
    comes old mid late new x result r whole idle c next last = record {
      front = c.holds;
      u = u;
      frees = d.holds;
      back = e.holds;
      at = y.committed + 1;
      at_is = refl;
      store = d.store;
      reached = record e.reached { store = d.reached.store };
      finishes = c.done.1;
      done = subst (λ t. Q (y.committed + 1) t d.holds d.store) same d.done;
      syncs = own_of x d.reached (λ g p store. SyncEnds g p result e.holds) (same_layout (c.holds ++ d.holds) x d.reached (follows_on c.holds d.holds x y d.reached c.follows d.follows)) ends.1;
      follows = follows_on c.holds (OnUber u LookedUber ∷ (d.holds ++ e.holds)) x y (record e.reached { store = d.reached.store }) c.follows
          (y, record { sees = refl; acts = refl }, follows_on d.holds e.holds y d.reached (record e.reached { store = d.reached.store }) d.follows (follows_but e.holds d.reached e.reached d.store e.follows));
      represents = subst (λ t. Represents rack area new (record e.reached { store = t })) ends.0 e.represents;
    }
      where
        y : State
        y = c.reached

        s : Represents rack area mid c.reached
        s = settled rack area mid x (Phase x (groups.Finishes x.geometry x.perms) Went) c c.done.0

        same : c.reached.store ≡ x.store
        same = kept_store mid x Went c

        u : UberView
        u = record { committed = c.reached.committed; next_leaf = c.reached.next_leaf }

        d : CarriesOut rack area late c.reached (Q (c.reached.committed + 1) c.reached.store)
        d = next c.reached s (low_idle rack area mid c.reached whole idle s)

        e : CarriesOut rack area new (record d.reached { store = d.store }) (SyncDoes (record d.reached { store = d.store }) result)
        e = last (record d.reached { store = d.store }) d.represents

        ends : (e.store ≡ d.store) × SyncEnds d.reached.geometry d.reached.perms result e.holds
        ends = sync_ends (record d.reached { store = d.store }) result e.holds e.store e.done

  -- ---- a discard

  module _ (new : Pool R A) (x : State) (freed : ℕ) where
    discards_in : (result : Result Synced SyncFault) (k : Comes (λ at old holds store. LetsGo at old freed holds store) new x result) (group thin : ℕ) (end : End) → groups.Syncs x.geometry x.perms group thin k.back end
        → Discards x.geometry x.perms x.store k.at group thin k.frees (k.front ++ (OnUber k.u LookedUber ∷ (k.frees ++ k.back))) end
    discards_in result k group thin end syncs = record {
      front = k.front;
      u = k.u;
      back = k.back;
      are = refl;
      at_is = k.at_is;
      has = k.done.has;
      finishes = k.finishes;
      frees_are = k.done.frees;
      all = k.done.all;
      syncs = syncs;
    }

    pub discarded_by : (it : Synced) → Comes (λ at old holds store. LetsGo at old freed holds store) new x (Ok it) → CarriesOut rack area new x (DiscardDoes x (Ok (record { freed = freed; group = it.group })))
    discarded_by it k = record {
      holds = k.front ++ (OnUber k.u LookedUber ∷ (k.frees ++ k.back));
      reached = k.reached;
      store = k.store;
      follows = k.follows;
      done = (k.at, it.thin, k.frees, k.done.many, k.done.made, discards_in (Ok it) k it.group it.thin Went k.syncs);
      represents = k.represents;
    }

    pub discard_stopped : (why : SyncFault) → Comes (λ at old holds store. LetsGo at old freed holds store) new x (Err why) → CarriesOut rack area new x (DiscardDoes x (Err (fault.Sync why)))
    discard_stopped why k = record {
      holds = k.front ++ (OnUber k.u LookedUber ∷ (k.frees ++ k.back));
      reached = k.reached;
      store = k.store;
      follows = k.follows;
      done = inr (k.at, k.syncs.0, k.syncs.1, k.frees, k.done.made, not_went ℕ why, discards_in (Err why) k k.syncs.0 k.syncs.1 (end_of {T = ℕ} (Err why)) k.syncs.2);
      represents = k.represents;
    }

    -- where the closing group wasn't finished, and where there is none
    pub discard_unfinished : (why : SyncFault) → CarriesOut rack area new x (Phase x (groups.Finishes x.geometry x.perms) (end_of {T = Unit} (Err why))) → CarriesOut rack area new x (DiscardDoes x (Err (fault.Sync why)))
    discard_unfinished why c = carries_so rack area new x (Phase x (groups.Finishes x.geometry x.perms) (end_of {T = Unit} (Err why))) (DiscardDoes x (Err (fault.Sync why))) c
        (λ holds store done. inl (done.0, not_went ℕ why, subst (groups.Finishes x.geometry x.perms holds) (end_same Unit ℕ why) done.1))

    pub discard_none : (c : CarriesOut rack area new x (Phase x (groups.Finishes x.geometry x.perms) Went)) → (point_of new.uber).group ≡ None → CarriesOut rack area new x (DiscardDoes x (Err fault.Nothing))
    discard_none c none = carries_so rack area new x (Phase x (groups.Finishes x.geometry x.perms) Went) (DiscardDoes x (Err fault.Nothing)) c (λ holds store done. (none_after new x Went c none, done.0, done.1))

  -- ---- a rewind

  module _ (new : Pool R A) (x : State) where
    goes_in : (result : Result Synced SyncFault) (k : Comes Reverted new x result) (group thin : ℕ) (end : End) → groups.Syncs x.geometry x.perms group thin k.back end
        → GoesBack x.geometry x.perms x.store k.store group thin (k.front ++ (OnUber k.u LookedUber ∷ (k.frees ++ k.back))) end
    goes_in result k group thin end syncs =
        let done : Reverted (k.u.committed + 1) x.store k.frees k.store = subst (λ n. Reverted n x.store k.frees k.store) k.at_is k.done in
        record {
          front = k.front;
          u = k.u;
          frees = k.frees;
          back = k.back;
          are = refl;
          finishes = k.finishes;
          reverts = done.reverts;
          frees_are = done.frees;
          all = done.all;
          syncs = syncs;
        }

    pub rewound_by : (it : Synced) (objects : ℕ) → ((y : State) → Represents rack area new y → HasObjects y.store.changes objects) → Comes Reverted new x (Ok it) → CarriesOut rack area new x (RewindDoes x (Ok (record { group = it.group; objects = objects })))
    rewound_by it objects many k = record {
      holds = k.front ++ (OnUber k.u LookedUber ∷ (k.frees ++ k.back));
      reached = k.reached;
      store = k.store;
      follows = k.follows;
      done = (it.thin, many (record k.reached { store = k.store }) k.represents, goes_in (Ok it) k it.group it.thin Went k.syncs);
      represents = k.represents;
    }

    pub rewind_stopped : (why : SyncFault) → Comes Reverted new x (Err why) → CarriesOut rack area new x (RewindDoes x (Err (fault.Sync why)))
    rewind_stopped why k = record {
      holds = k.front ++ (OnUber k.u LookedUber ∷ (k.frees ++ k.back));
      reached = k.reached;
      store = k.store;
      follows = k.follows;
      done = inr (k.syncs.0, k.syncs.1, not_went ℕ why, goes_in (Err why) k k.syncs.0 k.syncs.1 (end_of {T = ℕ} (Err why)) k.syncs.2);
      represents = k.represents;
    }

    pub rewind_unfinished : (why : SyncFault) → CarriesOut rack area new x (Phase x (groups.Finishes x.geometry x.perms) (end_of {T = Unit} (Err why))) → CarriesOut rack area new x (RewindDoes x (Err (fault.Sync why)))
    rewind_unfinished why c = carries_so rack area new x (Phase x (groups.Finishes x.geometry x.perms) (end_of {T = Unit} (Err why))) (RewindDoes x (Err (fault.Sync why))) c
        (λ holds store done. inl (done.0, not_went ℕ why, subst (groups.Finishes x.geometry x.perms holds) (end_same Unit ℕ why) done.1))

    pub rewind_none : (c : CarriesOut rack area new x (Phase x (groups.Finishes x.geometry x.perms) Went)) → (point_of new.uber).group ≡ None → CarriesOut rack area new x (RewindDoes x (Err fault.Nothing))
    rewind_none c none = carries_so rack area new x (Phase x (groups.Finishes x.geometry x.perms) Went) (RewindDoes x (Err fault.Nothing)) c (λ holds store done. (none_after new x Went c none, done.0, done.1))

    pub rewind_starved : (c : CarriesOut rack area new x (Phase x (groups.Finishes x.geometry x.perms) Went)) (own : ℕ) → (point_of new.uber).group ≡ Some own → CarriesOut rack area new x (RewindDoes x (Err fault.NoMemory))
    rewind_starved c own some = carries_so rack area new x (Phase x (groups.Finishes x.geometry x.perms) Went) (RewindDoes x (Err fault.NoMemory)) c (λ holds store done. (done.0, has_check x own (some_after new x Went c own some), done.1))

-- A checkpoint is made of the group that a sync commits, step by step.
use Rattle.std.proofs.Common.{arith, ◌≡◌, ◌≢◌, ◌+◌, ◌++◌, ◌≤◌, ◌∙◌, inl, inr, ℕ, false, List, ◌∷◌, Some, None, Ok, Err, refl, sym, ap, subst}
use Rattle.std.specs.Prelude.{Result}
use Rattle.draid_rack.specs.declared.Rack as racks
use Rattle.draid_area.specs.declared.Area as areas
use Rattle.draid_spec.specs.declared.layout.Geometry.{Geometry}
use Rattle.draid_perm.specs.declared.perms.Perms.{Perms}
use Rattle.draid_objects.specs.Marks.{Made, check_by}
use Rattle.draid_session.specs.Follows.{Follows}
use Rattle.draid_session.specs.Groups as groups
use Rattle.draid_session.specs.Holds.{Hold, LookedUber, OnUber, UberView}
use Rattle.draid_session.specs.Phases.{Chain, End, Went}
use Rattle.draid_session.specs.Points.{marked}
use Rattle.draid_session.specs.State.{State, Store}
use Rattle.draid_session.specs.Taking.{StopsBefore}
use Rattle.draid_uber.specs.Uber.{point_of}
use Rattle.draid_pool.specs.Carries.{CarriesOut}
use Rattle.draid_pool.specs.Objects.{blocks_of}
use Rattle.draid_pool.specs.Pools.{Represents, group_in}
use Rattle.draid_pool.specs.Syncing.{AreIdle, Phase, end_of}
use Rattle.draid_pool.specs.declared.fault.SyncFault.{SyncFault}
use Rattle.draid_pool.specs.declared.fault.SyncFault.TheVariants as sync
use Rattle.draid_pool.specs.declared.fault.Synced.{Synced}
use Rattle.draid_pool.specs.Whole.{IsWhole}
use Rattle.draid_pool.specs.declared.pool.Pool.{Pool}
use Rattle.draid_pool.proofs.Following.{follows_but}
use Rattle.draid_pool.proofs.Points.{none_stands}
use Rattle.draid_pool.proofs.Steps.{SameLayout, carries_so, follows_on, own_of, same_layout, settled}
use Rattle.draid_pool.proofs.SyncCalls.{pool_group}
use Rattle.draid_pool.proofs.SyncSteps.{not_went}
use Rattle.draid_rewinds.specs.Taking.{GoesOnDoes, MakesPoint, TakeDoes, TakesDoes}
use Rattle.draid_rewinds.specs.declared.fault.TakeFault.TheVariants as fault
use Rattle.draid_rewinds.proofs.Comes.{none_after, some_after}
use Rattle.draid_rewinds.proofs.Going.{IsLate, behind_late, end_same}
use Rattle.draid_rewinds.proofs.Settled.{close_on, idle_settled, low_idle, on_stays}

module _ {R A : Type 0} (rack : racks.Ghosts R) (area : areas.Ghosts A) where
  -- ---- where no group is closing

  -- the closing was stopped
  pub take_unclosed : (old new : Pool R A) (x : State) (group : ℕ) (why : SyncFault) → Represents rack area old x → (point_of old.uber).group ≡ None → group ≡ group_in old + 1
      → CarriesOut rack area new x (Phase x (groups.ClosePhase x.geometry x.perms group) (end_of {T = Unit} (Err why))) → CarriesOut rack area new x (TakesDoes x (Err why))
  take_unclosed old new x group why r none next c =
      carries_so rack area new x (Phase x (groups.ClosePhase x.geometry x.perms group) (end_of {T = Unit} (Err why))) (TakesDoes x (Err why)) c
      (λ holds store done. (
        none_stands area old.uber x (blocks_of x.metaslabs) r.stands.pieces r.stands.uber r.stands.holds r.stands.groups none,
        inl (done.0, subst (λ n. groups.ClosePhase x.geometry x.perms n holds (end_of {T = Synced} (Err why))) (next ∙ ap (λ n. n + 1) (pool_group rack area old x r)) (subst (groups.ClosePhase x.geometry x.perms group holds) (end_same Unit Synced why) done.1)),
      ))

  -- it went through
  module _ (old mid late new : Pool R A) (x : State) (group : ℕ) (r : Represents rack area old x) (idle : AreIdle old.metaslabs.shards.items) (floor_low : x.store.floor ≤ x.committed + 1) (next : group ≡ group_in old + 1)
      (c : CarriesOut rack area mid x (Phase x (groups.ClosePhase x.geometry x.perms group) Went))
      (make : (y : State) → Represents rack area mid y → y.store.floor ≤ y.committed + 1 → y.pending ≡ false → MakesPoint rack area late group y) (result : Result Synced SyncFault)
      (goes : (z : State) → Represents rack area late z → CarriesOut rack area new z (GoesOnDoes z group result)) where
    at : group ≡ x.committed + 1
    at = next ∙ ap (λ n. n + 1) (pool_group rack area old x r)

    y : State
    y = c.reached

    same : c.reached.store ≡ x.store
    same = (same_layout c.holds x c.reached c.follows).store

    made : MakesPoint rack area late group c.reached
    made =
        let on = on_stays c.holds x c.reached (close_on x.geometry x.perms group c.holds Went c.done.1) c.follows in
        let committed = on.committed in
        let floor = ap (λ (t : Store). t.floor) same in
        make c.reached (settled rack area mid x (Phase x (groups.ClosePhase x.geometry x.perms group) Went) c c.done.0) (omega (arith, floor, committed, floor_low)) (on.pending ∙ idle_settled rack area old x r idle)

    none : check_by x.store.marks ≡ None
    none = subst (λ (t : Store). check_by t.marks ≡ None) same made.none

    z : State
    z = record c.reached { store = marked (Made group) c.reached.store }

    e : CarriesOut rack area new (record c.reached { store = marked (Made group) c.reached.store }) (GoesOnDoes (record c.reached { store = marked (Made group) c.reached.store }) group result)
    e = goes (record c.reached { store = marked (Made group) c.reached.store }) made.represents

    -- what is said of the layout there is so of that here
    abbrev Behind : ℕ → End → Geometry → Perms → Store → Type 0
    Behind thin end g p store = Chain (groups.SealPhase g p group thin) (Chain (groups.Names g p group) (groups.CommitPhase g p group)) e.holds end

    behind : (thin : ℕ) (end : End) → Behind thin end c.reached.geometry c.reached.perms c.reached.store → Behind thin end x.geometry x.perms x.store
    behind thin end is = own_of x c.reached (Behind thin end) (same_layout c.holds x c.reached c.follows) is

    abbrev reached : State
    reached = record e.reached { store = c.reached.store }

    follows : Follows (c.holds ++ e.holds) x reached
    follows = follows_on c.holds e.holds x c.reached reached c.follows (follows_but e.holds c.reached e.reached (marked (Made group) c.reached.store) e.follows)

    kept : (store : Store) → store ≡ marked (Made group) c.reached.store → (n : ℕ) → group ≡ n → store ≡ marked (Made n) x.store
    kept store is n own = is ∙ (λ i. marked (Made (own i)) (same i))

    -- what it did, by its answer
    done_by : (answer : Result Synced SyncFault) → GoesOnDoes (record c.reached { store = marked (Made group) c.reached.store }) group answer e.holds e.store → TakesDoes x answer (c.holds ++ e.holds) e.store
    done_by (Ok it) (group_is, (kept_is, chain)) = (
      none,
      group_is ∙ at,
      kept e.store kept_is it.group (sym group_is),
      subst (λ n. groups.Group x.geometry x.perms n it.thin (c.holds ++ e.holds) Went) (sym group_is) (inl (c.holds, e.holds, refl, c.done.1, behind it.thin Went chain)),
    )
    done_by (Err why) (thin, (kept_is, chain)) =
        let end : End = end_of {T = Synced} (Err why) in
        let here = behind thin end chain in
        let late_is : IsLate end = behind_late x.geometry x.perms group thin e.holds end here in (
          none,
          inr (
            λ worn. late_is.not_worn (ap (λ w. end_of {T = Synced} (Err w)) worn),
            λ last. late_is.not_last (ap (λ w. end_of {T = Synced} (Err w)) last),
            kept e.store kept_is (x.committed + 1) at,
            (
              c.holds,
              e.holds,
              thin,
              refl,
              subst (λ n. groups.ClosePhase x.geometry x.perms n c.holds Went) at c.done.1,
              subst (λ n. Chain (groups.SealPhase x.geometry x.perms n thin) (Chain (groups.Names x.geometry x.perms n) (groups.CommitPhase x.geometry x.perms n)) e.holds end) at here,
            ),
          ),
        )

    pub take_done : CarriesOut rack area new x (TakesDoes x result)
    take_done = record { holds = c.holds ++ e.holds; reached = reached; store = e.store; follows = follows; done = done_by result e.done; represents = e.represents }

  -- ---- the whole

  -- the closing group wasn't finished
  pub take_unfinished : (new : Pool R A) (x : State) (why : SyncFault) → (why ≢ sync.Last) → CarriesOut rack area new x (Phase x (groups.Finishes x.geometry x.perms) (end_of {T = Unit} (Err why))) → CarriesOut rack area new x (TakeDoes x (Err (fault.Sync why)))
  take_unfinished new x why other c =
      carries_so rack area new x (Phase x (groups.Finishes x.geometry x.perms) (end_of {T = Unit} (Err why))) (TakeDoes x (Err (fault.Sync why))) c (λ holds store done. by why other holds store done)
    where
      by : (w : SyncFault) → (w ≢ sync.Last) → (holds : List Hold) (store : Store) → Phase x (groups.Finishes x.geometry x.perms) (end_of {T = Unit} (Err w)) holds store → TakeDoes x (Err (fault.Sync w)) holds store
      by sync.Worn differs holds store done = (done.0, (not_went ℕ sync.Worn, inl done.1))
      by sync.Last differs holds store done = absurd (differs refl)
      by sync.Shelf differs holds store done = inl (done.0, (not_went ℕ sync.Shelf, inl done.1))
      by sync.NoMemory differs holds store done = inl (done.0, (not_went ℕ sync.NoMemory, inl done.1))

  pub take_exists : (new : Pool R A) (x : State) (c : CarriesOut rack area new x (Phase x (groups.Finishes x.geometry x.perms) Went)) (own : ℕ) → (point_of new.uber).group ≡ Some own → CarriesOut rack area new x (TakeDoes x (Err (fault.Exists own)))
  take_exists new x c own some = carries_so rack area new x (Phase x (groups.Finishes x.geometry x.perms) Went) (TakeDoes x (Err (fault.Exists own))) c (λ holds store done. (done.0, some_after rack area new x Went c own some, done.1))

  pub take_starved : (new : Pool R A) (x : State) (c : CarriesOut rack area new x (Phase x (groups.Finishes x.geometry x.perms) Went)) → (point_of new.uber).group ≡ None → CarriesOut rack area new x (TakeDoes x (Err fault.NoMemory))
  take_starved new x c none = carries_so rack area new x (Phase x (groups.Finishes x.geometry x.perms) Went) (TakeDoes x (Err fault.NoMemory)) c (λ holds store done. (done.0, none_after rack area new x Went c none, done.1))

  -- and then a checkpoint was made, or that was stopped
  module _ (old mid new : Pool R A) (x : State) (r : Represents rack area old x) (whole : IsWhole rack area mid) (idle : AreIdle mid.metaslabs.shards.items) (c : CarriesOut rack area mid x (Phase x (groups.Finishes x.geometry x.perms) Went)) (result : Result Synced SyncFault)
      (takes : (y : State) → Represents rack area mid y → y.store.floor ≤ y.committed + 1 → CarriesOut rack area new y (TakesDoes y result)) where
    layout : SameLayout x c.reached
    layout = same_layout c.holds x c.reached c.follows

    d : CarriesOut rack area new c.reached (TakesDoes c.reached result)
    d = takes c.reached (settled rack area mid x (Phase x (groups.Finishes x.geometry x.perms) Went) c c.done.0)
        (low_idle rack area mid c.reached whole idle (settled rack area mid x (Phase x (groups.Finishes x.geometry x.perms) Went) c c.done.0))

    abbrev u : UberView
    u = record { committed = c.reached.committed; next_leaf = c.reached.next_leaf }

    -- the same in terms of the layout and the store at the beginning
    abbrev Says : Result Synced SyncFault → Geometry → Perms → Store → Type 0
    Says answer g p store = TakesDoes (record c.reached { geometry = g; perms = p; store = store }) answer d.holds d.store

    taken : (answer : Result Synced SyncFault) → TakesDoes c.reached answer d.holds d.store → Says answer x.geometry x.perms x.store
    taken answer is = own_of x c.reached (Says answer) layout is

    abbrev holds : List Hold
    holds = c.holds ++ OnUber u LookedUber ∷ d.holds

    follows_all : Follows holds x d.reached
    follows_all = follows_on c.holds (OnUber u LookedUber ∷ d.holds) x c.reached d.reached c.follows (c.reached, record { sees = refl; acts = refl }, d.follows)

    pub take_all : (it : Synced) → result ≡ Ok it → CarriesOut rack area new x (TakeDoes x (Ok it.group))
    take_all it is = record {
      holds = holds;
      reached = d.reached;
      store = d.store;
      follows = follows_all;
      done =
          (let t = taken (Ok it) (subst (λ answer. TakesDoes c.reached answer d.holds d.store) is d.done) in
          (it.thin, t.0, t.2, inl (c.holds, OnUber u LookedUber ∷ d.holds, refl, c.done.1, (u, d.holds, refl, t.1, t.3))));
      represents = d.represents;
    }

    closing_stops : (end : End) → end ≢ Went → check_by x.store.marks ≡ None → groups.ClosePhase x.geometry x.perms (c.reached.committed + 1) d.holds end → StopsBefore x.geometry x.perms x.store holds end
    closing_stops end stopped none closes = (stopped, inr (none, record { group = c.reached.committed + 1; front = c.holds; u = u; back = d.holds; are = refl; finishes = c.done.1; next = refl; closes = closes }))

    behind_stops : (why : SyncFault) → Says (Err why) x.geometry x.perms x.store → TakeDoes x (Err (fault.Sync why)) holds d.store
    behind_stops sync.Worn (unmade, inl (stays, closes)) = (stays, closing_stops (end_of {T = Synced} (Err sync.Worn)) (not_went Synced sync.Worn) unmade closes)
    behind_stops sync.Worn (unmade, inr (not_worn, not_last, made_is, rest)) = absurd (not_worn refl)
    behind_stops sync.Last (unmade, inl (stays, closes)) = (stays, closing_stops (end_of {T = Synced} (Err sync.Last)) (not_went Synced sync.Last) unmade closes)
    behind_stops sync.Last (unmade, inr (not_worn, not_last, made_is, rest)) = absurd (not_last refl)
    behind_stops sync.Shelf (unmade, inl (stays, closes)) = inl (stays, closing_stops (end_of {T = Synced} (Err sync.Shelf)) (not_went Synced sync.Shelf) unmade closes)
    behind_stops sync.Shelf (unmade, inr (not_worn, not_last, made_is, (front, back, thin, are, closes, rest))) = inr (record {
      group = c.reached.committed + 1;
      thin = thin;
      front = c.holds;
      u = u;
      close = front;
      back = back;
      are = ap (λ hs. c.holds ++ OnUber u LookedUber ∷ hs) are;
      finishes = c.done.1;
      next = refl;
      closes = closes;
      rest = rest;
      stopped = not_went Synced sync.Shelf;
      none = unmade;
      made = made_is;
    })
    behind_stops sync.NoMemory (unmade, inl (stays, closes)) = inl (stays, closing_stops (end_of {T = Synced} (Err sync.NoMemory)) (not_went Synced sync.NoMemory) unmade closes)
    behind_stops sync.NoMemory (unmade, inr (not_worn, not_last, made_is, (front, back, thin, are, closes, rest))) = inr (record {
      group = c.reached.committed + 1;
      thin = thin;
      front = c.holds;
      u = u;
      close = front;
      back = back;
      are = ap (λ hs. c.holds ++ OnUber u LookedUber ∷ hs) are;
      finishes = c.done.1;
      next = refl;
      closes = closes;
      rest = rest;
      stopped = not_went Synced sync.NoMemory;
      none = unmade;
      made = made_is;
    })

    pub take_stopped : (why : SyncFault) → result ≡ Err why → CarriesOut rack area new x (TakeDoes x (Err (fault.Sync why)))
    take_stopped why is = record {
      holds = holds;
      reached = d.reached;
      store = d.store;
      follows = follows_all;
      done = behind_stops why (taken (Err why) (subst (λ answer. TakesDoes c.reached answer d.holds d.store) is d.done));
      represents = d.represents;
    }

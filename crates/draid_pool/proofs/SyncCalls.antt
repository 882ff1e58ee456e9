-- The calls of a sync: a group is committed, and a closing one is finished.
use Rattle.std.proofs.Common.{◌≡◌, ◌==◌, ◌≤◌, ◌+◌, ◌++◌, ◌∙◌, [], ◌∷◌, inl, inr, ℕ, List, Option, Some, None, Ok, Err, Contains, arith, refl, sym, ap, subst, length, if◌then◌else◌}
use Rattle.std.specs.Prelude.{nat_eq, slice_get}
use Rattle.std.specs.HashMap.{get}
use Rattle.std.proofs.lemmas.List.{append-nil}
use Rattle.std.proofs.lemmas.Option.{slice_get_within}
use Rattle.draid_names.specs.declared.pointer.Pointer.{Pointer}
use Rattle.draid_names.specs.Faults.{Rose}
use Rattle.draid_rack.specs.declared.Rack as racks
use Rattle.draid_area.specs.declared.Area as areas
use Rattle.draid_spec.specs.declared.layout.Geometry.{Geometry}
use Rattle.draid_perm.specs.declared.perms.Perms.{Perms}
use Rattle.draid_machine.proofs.Small.{bool_cases, is_equal, none_some}
use Rattle.draid_shard.specs.declared.shard.Shard.{Shard}
use Rattle.draid_uber.specs.Slots.{group_of}
use Rattle.draid_uber.specs.Uber.{count_of, kept_of}
use Rattle.draid_session.specs.Groups as groups
use Rattle.draid_session.specs.Holds.{CommitFailed, CommitStarved, Committed, Hold, LookedUber, OnUber, UberView, view_of}
use Rattle.draid_session.specs.Looks.{LooksFrom}
use Rattle.draid_session.specs.Phases.{Broke, Chain, End, NoneOf, Starved, Went}
use Rattle.draid_session.specs.State.{State, Store}
use Rattle.draid_pool.specs.Syncing.{SyncDoes, AreSealed, CommitsBelow, FoundClosing, GroupDoes, Phase, SealDoes, end_of}
use Rattle.draid_pool.specs.Carries.{CarriesOut}
use Rattle.draid_pool.specs.Importable.{keep_shared}
use Rattle.draid_pool.specs.Pools.{Represents}
use Rattle.draid_pool.specs.Ubers.{Names, Refuses, body_of}
use Rattle.draid_pool.specs.declared.fault.SyncFault.{SyncFault}
use Rattle.draid_pool.specs.declared.fault.SyncFault.TheVariants as sync
use Rattle.draid_pool.specs.declared.pool.Pool.{Pool}
use Rattle.draid_pool.specs.Views.{seen_at}
use Rattle.draid_pool.proofs.Commits.{CommitsAll, commits_all}
use Rattle.draid_pool.proofs.Lifted.{HasMetaslab, metaslab_of}
use Rattle.draid_pool.proofs.Lists.{present}
use Rattle.draid_pool.proofs.Looking.{changes_none, looked, looks_at, none_seen, seen_there}
use Rattle.draid_pool.proofs.Moved.{uber_stays}
use Rattle.draid_pool.proofs.Naming.{named_state, refused_state, stood_named, stood_refused, uber_named, uber_refused}
use Rattle.draid_pool.proofs.Steps.{carried, carries_so, follows_on, own_of, same_layout, settled}
use Rattle.draid_pool.proofs.Stood.{CommittedBelow, IsOneOf, Rest, Stood, represents_of, stood_of}
use Rattle.draid_pool.proofs.SyncSteps.{not_went}

-- ---- ends

pub end_same : (why : SyncFault) → end_of {T = Unit} (Err why) ≡ end_of {T = ℕ} (Err why)
end_same sync.Worn = refl
end_same sync.Last = refl
end_same sync.Shelf = refl
end_same sync.NoMemory = refl

-- the committed group of a state
group_from : (n version next_leaf : ℕ) (geometry : Geometry) → group_of (if n == 0 then None else Some (body_of geometry version n next_leaf)) ≡ n
group_from n version next_leaf geometry = elim (bool_cases (n == 0)) [
  | inl none ↦ ap (λ b. group_of (if b then None else Some (body_of geometry version n next_leaf))) none ∙ sym (is_equal n 0 none)
  | inr other ↦ ap (λ b. group_of (if b then None else Some (body_of geometry version n next_leaf))) other
]

-- what a phase says of the layout and its permutations
abbrev Says : Type 1
Says = Geometry → Perms → List Hold → End → Type 0

module _ {R A : Type 0} (rack : racks.Ghosts R) (area : areas.Ghosts A) where
  pub pool_group : (pool : Pool R A) (x : State) → Represents rack area pool x → group_of (kept_of pool.uber) ≡ x.committed
  pool_group pool x r = ap group_of r.stands.uber.kept ∙ group_from x.committed x.kept_version x.kept_leaf x.geometry

  -- ---- phases, one after another

  pub then_phase : (mid new : Pool R A) (x : State) (P Q : Says) (end : End) → CarriesOut rack area mid x (Phase x (P x.geometry x.perms) Went)
      → ((y : State) → Represents rack area mid y → CarriesOut rack area new y (Phase y (Q y.geometry y.perms) end))
      → CarriesOut rack area new x (Phase x (Chain (P x.geometry x.perms) (Q x.geometry x.perms)) end)
  then_phase mid new x P Q end c next =
      let d = next c.reached (settled rack area mid x (Phase x (P x.geometry x.perms) Went) c c.done.0) in
      carried rack area new x (c.holds ++ d.holds) d.reached (Phase x (Chain (P x.geometry x.perms) (Q x.geometry x.perms)) end)
      (follows_on c.holds d.holds x c.reached d.reached c.follows d.follows)
      (settled rack area new c.reached (Phase c.reached (Q c.reached.geometry c.reached.perms) end) d d.done.0)
      (refl, inl (c.holds, d.holds, refl, c.done.1, own_of x c.reached (λ g p store. Q g p d.holds end) (same_layout c.holds x c.reached c.follows) d.done.1))

  -- ---- the uberblock names the group

  module _ (pool new : Pool R A) (group : ℕ) (x : State) (r : Represents rack area pool x) (sealed : AreSealed pool.metaslabs.shards.items group) (next : group ≡ group_of (kept_of pool.uber) + 1)
      (geometry : new.geometry ≡ pool.geometry) (objects : new.own.objects ≡ pool.own.objects) (seq : new.own.seq ≡ pool.own.seq) (floor : new.own.floor ≡ pool.own.floor) where
    behind : group ≡ x.committed + 1
    behind = next ∙ ap (λ n. n + 1) (pool_group pool x r)

    count : ℕ
    count = count_of area.faults new.uber

    abbrev view : UberView
    view = record { committed = x.committed; next_leaf = x.next_leaf }

    abbrev pointers : ℕ → Option Pointer
    pointers object = get nat_eq pool.own.objects object

    stood : Stood rack area pool.metaslabs.shards.items pointers x (IsOneOf x.committed r.stands.shared)
    stood = stood_of rack area pool x r

    pub named_sealed : Names area pool.uber new.uber group → count_of area.faults pool.uber ≤ count_of area.faults new.uber
        → CommitsBelow rack group (length pool.metaslabs.shards.items) pool.metaslabs.shards.items new.metaslabs.shards.items
        → CarriesOut rack area new x (Phase x (Chain (groups.Names x.geometry x.perms group) (groups.CommitPhase x.geometry x.perms group)) Went)
    unfolding count
    named_sealed n later commits =
        carried rack area new x (OnUber view (Committed group) ∷ c.holds) reached (Phase x (Chain (groups.Names x.geometry x.perms group) (groups.CommitPhase x.geometry x.perms group)) Went)
        (named_state x group count, record { sees = refl; acts = (count, (let is = r.stands.uber.count in omega (arith, is, later)), refl) }, c.follows)
        (represents_of rack area new (keep_shared r.stands.shared) reached own rest)
        (refl, inl (OnUber view (Committed group) ∷ [], c.holds, refl, (refl, behind), (c.each, refl)))
      where
        c : CommitsAll rack area pool.metaslabs.shards.items new.metaslabs.shards.items pointers (named_state x group count) group r.stands.shared commits refl refl refl
        c = commits_all rack area pool.metaslabs.shards.items new.metaslabs.shards.items pointers (named_state x group count) group r.stands.shared commits refl refl refl
            (stood_named rack area pool.metaslabs.shards.items pointers x (IsOneOf x.committed r.stands.shared) stood group sealed count (CommittedBelow group r.stands.shared 0) behind
            (λ m y at. (λ less. absurd (omega (arith, less)), λ from. r.stands.alike m y at)))

        reached : State
        reached = record (named_state x group count) { metaslabs = c.metaslabs }

        own : Stood rack area new.metaslabs.shards.items (λ object. get nat_eq new.own.objects object) reached (IsOneOf group (keep_shared r.stands.shared))
        own = subst (λ os. Stood rack area new.metaslabs.shards.items (λ object. get nat_eq os object) (record (named_state x group count) { metaslabs = c.metaslabs }) (IsOneOf group (keep_shared r.stands.shared)))
            (sym objects) c.stood

        rest : Rest rack area new (keep_shared r.stands.shared) reached
        rest = record {
          geometry = r.stands.geometry ∙ sym geometry;
          versions = record { kept = r.stands.versions.now; now = r.stands.versions.now };
          next = (let fits = r.stands.groups.next in omega (arith, fits, behind));
          last = r.stands.groups.last;
          seq = r.stands.seq ∙ sym seq;
          floor = r.stands.floor ∙ sym floor;
          uber = uber_stays rack area new new (named_state x group count) c.metaslabs x.store refl refl (uber_named area pool.uber new.uber group x r.stands.uber n (let own = pool_group pool x r in omega (arith, behind, own)));
        }

    -- it is refused
    refused_is : Refuses area pool.uber new.uber group → new.metaslabs.shards.items ≡ pool.metaslabs.shards.items → Represents rack area new (refused_state x count)
    unfolding count
    refused_is n shards = represents_of rack area new r.stands.shared (refused_state x count) own rest
      where
        own : Stood rack area new.metaslabs.shards.items (λ object. get nat_eq new.own.objects object) (refused_state x count) (IsOneOf x.committed r.stands.shared)
        own = subst (λ zs. Stood rack area zs (λ object. get nat_eq new.own.objects object) (refused_state x count) (IsOneOf x.committed r.stands.shared)) (sym shards)
            (subst (λ os. Stood rack area pool.metaslabs.shards.items (λ object. get nat_eq os object) (refused_state x count) (IsOneOf x.committed r.stands.shared)) (sym objects)
            (stood_refused rack area pool.metaslabs.shards.items pointers x (IsOneOf x.committed r.stands.shared) stood group sealed count behind))

        rest : Rest rack area new r.stands.shared (refused_state x count)
        rest = record {
          geometry = r.stands.geometry ∙ sym geometry;
          versions = r.stands.versions;
          next = r.stands.groups.next;
          last = r.stands.groups.last;
          seq = r.stands.seq ∙ sym seq;
          floor = r.stands.floor ∙ sym floor;
          uber = uber_refused area pool.uber new.uber group x r.stands.uber n behind;
        }

    pub refused_failed : Refuses area pool.uber new.uber group → Rose (count_of area.faults pool.uber) (count_of area.faults new.uber) → new.metaslabs.shards.items ≡ pool.metaslabs.shards.items
        → CarriesOut rack area new x (Phase x (Chain (groups.Names x.geometry x.perms group) (groups.CommitPhase x.geometry x.perms group)) Broke)
    unfolding count
    refused_failed n rose shards =
        carried rack area new x (OnUber view (CommitFailed group) ∷ []) (refused_state x count) (Phase x (Chain (groups.Names x.geometry x.perms group) (groups.CommitPhase x.geometry x.perms group)) Broke)
        (refused_state x count, record { sees = refl; acts = (count, subst (λ k. Rose k count) (sym r.stands.uber.count) rose, refl) }, refl)
        (refused_is n shards) (refl, inr (not_went Unit sync.Shelf, (refl, behind)))

    pub refused_starved : Refuses area pool.uber new.uber group → count_of area.faults pool.uber ≤ count_of area.faults new.uber → new.metaslabs.shards.items ≡ pool.metaslabs.shards.items
        → CarriesOut rack area new x (Phase x (Chain (groups.Names x.geometry x.perms group) (groups.CommitPhase x.geometry x.perms group)) Starved)
    unfolding count
    refused_starved n later shards =
        carried rack area new x (OnUber view (CommitStarved group) ∷ []) (refused_state x count) (Phase x (Chain (groups.Names x.geometry x.perms group) (groups.CommitPhase x.geometry x.perms group)) Starved)
        (refused_state x count, record { sees = refl; acts = (count, (let is = r.stands.uber.count in omega (arith, is, later)), refl) }, refl)
        (refused_is n shards) (refl, inr (not_went Unit sync.NoMemory, (refl, behind)))

  -- ---- a group

  abbrev Ends : ℕ → Says
  Ends group geometry perms = Chain (groups.Names geometry perms group) (groups.CommitPhase geometry perms group)

  group_with : (mid late new : Pool R A) (x : State) (group thin : ℕ) (end : End) → CarriesOut rack area mid x (Phase x (groups.ClosePhase x.geometry x.perms group) Went)
      → ((y : State) → Represents rack area mid y → CarriesOut rack area late y (SealDoes y group (Ok thin)))
      → ((y : State) → Represents rack area late y → CarriesOut rack area new y (Phase y (Ends group y.geometry y.perms) end))
      → CarriesOut rack area new x (Phase x (groups.Group x.geometry x.perms group thin) end)
  group_with mid late new x group thin end close seal ends =
      then_phase mid new x (λ g p. groups.ClosePhase g p group) (λ g p. Chain (groups.SealPhase g p group thin) (Ends group g p)) end close
      (λ y r. then_phase late new y (λ g p. groups.SealPhase g p group thin) (Ends group) end (seal y r) ends)

  pub group_done : (mid late new : Pool R A) (x : State) (group thin : ℕ) → CarriesOut rack area mid x (Phase x (groups.ClosePhase x.geometry x.perms group) Went)
      → ((y : State) → Represents rack area mid y → CarriesOut rack area late y (SealDoes y group (Ok thin)))
      → ((y : State) → Represents rack area late y → CarriesOut rack area new y (Phase y (Ends group y.geometry y.perms) Went)) → CarriesOut rack area new x (GroupDoes x group (Ok thin))
  group_done mid late new x group thin close seal ends = group_with mid late new x group thin Went close seal ends

  pub group_unclosed : (new : Pool R A) (x : State) (group : ℕ) (why : SyncFault) → CarriesOut rack area new x (Phase x (groups.ClosePhase x.geometry x.perms group) (end_of {T = Unit} (Err why)))
      → CarriesOut rack area new x (GroupDoes x group (Err why))
  group_unclosed new x group why c =
      carries_so rack area new x (Phase x (groups.ClosePhase x.geometry x.perms group) (end_of {T = Unit} (Err why))) (GroupDoes x group (Err why)) c
      (λ holds store done. (done.0, (0, subst (λ end. groups.Group x.geometry x.perms group 0 holds end) (end_same why) (inr (not_went Unit why, done.1)))))

  pub group_unsealed : (mid new : Pool R A) (x : State) (group : ℕ) (why : SyncFault) → CarriesOut rack area mid x (Phase x (groups.ClosePhase x.geometry x.perms group) Went)
      → ((y : State) → Represents rack area mid y → CarriesOut rack area new y (SealDoes y group (Err why))) → CarriesOut rack area new x (GroupDoes x group (Err why))
  group_unsealed mid new x group why close seal =
      let end : End = end_of {T = ℕ} (Err why) in
      let Q : Says = (λ (g : Geometry) (p : Perms) (holds : List Hold) (e : End). (thin : ℕ) × groups.SealPhase g p group thin holds e) in
      carries_so rack area new x (Phase x (Chain (groups.ClosePhase x.geometry x.perms group) (Q x.geometry x.perms)) end) (GroupDoes x group (Err why))
      (then_phase mid new x (λ g p. groups.ClosePhase g p group) Q end close seal)
      (λ holds store done. (
        done.0,
        (elim done.1 [
          | inl z ↦ (z.4.0, inl (z.0, z.1, z.2, z.3, inr (not_went ℕ why, z.4.1)))
          | inr z ↦ (0, inr z)
        ]),
      ))

  pub group_unnamed : (mid late new : Pool R A) (x : State) (group thin : ℕ) (why : SyncFault) → CarriesOut rack area mid x (Phase x (groups.ClosePhase x.geometry x.perms group) Went)
      → ((y : State) → Represents rack area mid y → CarriesOut rack area late y (SealDoes y group (Ok thin)))
      → ((y : State) → Represents rack area late y → CarriesOut rack area new y (Phase y (Ends group y.geometry y.perms) (end_of {T = Unit} (Err why)))) → CarriesOut rack area new x (GroupDoes x group (Err why))
  group_unnamed mid late new x group thin why close seal ends =
      carries_so rack area new x (Phase x (groups.Group x.geometry x.perms group thin) (end_of {T = Unit} (Err why))) (GroupDoes x group (Err why))
      (group_with mid late new x group thin (end_of {T = Unit} (Err why)) close seal ends)
      (λ holds store done. (done.0, (thin, subst (λ end. groups.Group x.geometry x.perms group thin holds end) (end_same why) done.1)))

  -- ---- finishing

  abbrev pub looks_of : State → List Hold
  looks_of x = looks_at 0 x.metaslabs

  pub looked_all : (pool : Pool R A) (x : State) → Represents rack area pool x → LooksFrom 0 x.geometry.props.metaslabs (looks_of x) (seen_at 0 x.metaslabs)
  looked_all pool x r = subst (λ n. LooksFrom 0 n (looks_of x) (seen_at 0 x.metaslabs)) r.stands.many (looked 0 x.metaslabs)

  -- a metaslab that a shard stands for is seen
  pub seen_of : (pool : Pool R A) (x : State) (m : ℕ) (shard : Shard R A) (r : Represents rack area pool x) (there : slice_get pool.metaslabs.shards.items m ≡ Some shard)
      → Contains (seen_at 0 x.metaslabs) (view_of (0 + m) (metaslab_of rack area pool x r.stands m shard there).y)
  seen_of pool x m shard r there = (let z = metaslab_of rack area pool x r.stands m shard there in seen_there 0 m x.metaslabs z.y z.at)

  pub finishes_none : (pool : Pool R A) (x : State) → Represents rack area pool x → FoundClosing pool.metaslabs.shards.items None → CarriesOut rack area pool x (Phase x (groups.Finishes x.geometry x.perms) Went)
  finishes_none pool x r none =
      carried rack area pool x (looks_of x) x (Phase x (groups.Finishes x.geometry x.perms) Went) (changes_none x [] x.metaslabs 0 refl refl) r
      (refl, record { looks = looks_of x; rest = []; views = seen_at 0 x.metaslabs; are = sym (append-nil (looks_of x)); looked = looked_all pool x r; does = inl (idle, refl, refl) })
    where
      idle : NoneOf groups.HasClosing (seen_at 0 x.metaslabs)
      idle = none_seen groups.HasClosing 0 x.metaslabs (λ k y at is.
          (let long = r.stands.shards in let inside = slice_get_within x.metaslabs k y at in
          let shard = present pool.metaslabs.shards.items k (omega (arith, long, inside)) in
          none_some y.world.closing is.0 ((r.stands.each k shard.0 y shard.1 at).stands.is_in.closing ∙ none k shard.0 shard.1) is.1))

  finishes : (pool new : Pool R A) (x : State) (group thin m : ℕ) (shard : Shard R A) (end : End) → Represents rack area pool x → slice_get pool.metaslabs.shards.items m ≡ Some shard → shard.closing ≡ Some group
      → (d : CarriesOut rack area new x (Phase x (groups.Group x.geometry x.perms group thin) end)) → CarriesOut rack area new x (Phase x (groups.Finishes x.geometry x.perms) end)
  finishes pool new x group thin m shard end r there closing d =
      let z : HasMetaslab rack area pool x r.stands m shard = metaslab_of rack area pool x r.stands m shard there in
      carried rack area new x (looks_of x ++ d.holds) d.reached (Phase x (groups.Finishes x.geometry x.perms) end)
      (follows_on (looks_of x) d.holds x x d.reached (changes_none x [] x.metaslabs 0 refl refl) d.follows)
      (settled rack area new x (Phase x (groups.Group x.geometry x.perms group thin) end) d d.done.0) (
        refl,
        record {
          looks = looks_of x;
          rest = d.holds;
          views = seen_at 0 x.metaslabs;
          are = refl;
          looked = looked_all pool x r;
          does = inr (group, view_of (0 + m) z.y, thin, seen_of pool x m shard r there, z.is.stands.is_in.closing ∙ closing, d.done.1);
        },
      )

  pub finishes_some : (pool new : Pool R A) (x : State) (group thin : ℕ) → Represents rack area pool x → FoundClosing pool.metaslabs.shards.items (Some group)
      → CarriesOut rack area new x (GroupDoes x group (Ok thin)) → CarriesOut rack area new x (Phase x (groups.Finishes x.geometry x.perms) Went)
  finishes_some pool new x group thin r found d = finishes pool new x group thin found.0 found.1 Went r found.2 found.3 d

  pub finish_stops : (pool new : Pool R A) (x : State) (group : ℕ) (why : SyncFault) → Represents rack area pool x → FoundClosing pool.metaslabs.shards.items (Some group)
      → CarriesOut rack area new x (GroupDoes x group (Err why)) → CarriesOut rack area new x (Phase x (groups.Finishes x.geometry x.perms) (end_of {T = Unit} (Err why)))
  finish_stops pool new x group why r found d =
      subst (λ end. CarriesOut rack area new x (Phase x (groups.Finishes x.geometry x.perms) end)) (sym (end_same why))
      (finishes pool new x group d.done.1.0 found.0 found.1 (end_of {T = ℕ} (Err why)) r found.2 found.3
      (record { holds = d.holds; reached = d.reached; store = d.store; follows = d.follows; done = (d.done.0, d.done.1.1); represents = d.represents }))

  -- ---- a sync

  next_phase : (mid new : Pool R A) (y : State) (group thin : ℕ) (end : End) → Represents rack area mid y → group ≡ group_of (kept_of mid.uber) + 1
      → CarriesOut rack area new y (Phase y (groups.Group y.geometry y.perms group thin) end) → CarriesOut rack area new y (Phase y (groups.Next y.geometry y.perms group thin) end)
  next_phase mid new y group thin end r next d =
      let u : UberView = record { committed = y.committed; next_leaf = y.next_leaf } in
      carried rack area new y (OnUber u LookedUber ∷ d.holds) d.reached (Phase y (groups.Next y.geometry y.perms group thin) end)
      (y, record { sees = refl; acts = refl }, d.follows) (settled rack area new y (Phase y (groups.Group y.geometry y.perms group thin) end) d d.done.0)
      (refl, (u, d.holds, refl, next ∙ ap (λ n. n + 1) (pool_group mid y r), d.done.1))

  pub sync_done : (mid new : Pool R A) (x : State) (group thin : ℕ) → CarriesOut rack area mid x (Phase x (groups.Finishes x.geometry x.perms) Went) → group ≡ group_of (kept_of mid.uber) + 1
      → ((y : State) → Represents rack area mid y → CarriesOut rack area new y (GroupDoes y group (Ok thin))) → CarriesOut rack area new x (SyncDoes x (Ok (record { group = group; thin = thin })))
  sync_done mid new x group thin c next does =
      then_phase mid new x (λ g p. groups.Finishes g p) (λ g p. groups.Next g p group thin) Went c (λ y r. next_phase mid new y group thin Went r next (does y r))

  stops_do : (x : State) (why : SyncFault) (holds : List Hold) (store : Store) → store ≡ x.store → groups.SyncStops x.geometry x.perms holds (end_of {T = ℕ} (Err why)) → SyncDoes x (Err why) holds store
  stops_do x sync.Worn holds store same stops = (same, stops)
  stops_do x sync.Last holds store same stops = (same, stops)
  stops_do x sync.Shelf holds store same stops = (same, stops)
  stops_do x sync.NoMemory holds store same stops = (same, stops)

  pub sync_unfinished : (new : Pool R A) (x : State) (why : SyncFault) → CarriesOut rack area new x (Phase x (groups.Finishes x.geometry x.perms) (end_of {T = Unit} (Err why)))
      → CarriesOut rack area new x (SyncDoes x (Err why))
  sync_unfinished new x why c =
      carries_so rack area new x (Phase x (groups.Finishes x.geometry x.perms) (end_of {T = Unit} (Err why))) (SyncDoes x (Err why)) c
      (λ holds store done. stops_do x why holds store done.0 (subst (groups.SyncStops x.geometry x.perms holds) (end_same why)
      (record { group = 0; thin = 0; stopped = not_went Unit why; syncs = inr (not_went Unit why, done.1) })))

  pub sync_stops : (mid new : Pool R A) (x : State) (group : ℕ) (why : SyncFault) → CarriesOut rack area mid x (Phase x (groups.Finishes x.geometry x.perms) Went) → group ≡ group_of (kept_of mid.uber) + 1
      → ((y : State) → Represents rack area mid y → CarriesOut rack area new y (GroupDoes y group (Err why))) → CarriesOut rack area new x (SyncDoes x (Err why))
  sync_stops mid new x group why c next does =
      let end : End = end_of {T = ℕ} (Err why) in
      let Q : Says = (λ (g : Geometry) (p : Perms) (holds : List Hold) (e : End). (thin : ℕ) × groups.Next g p group thin holds e) in
      carries_so rack area new x (Phase x (Chain (groups.Finishes x.geometry x.perms) (Q x.geometry x.perms)) end) (SyncDoes x (Err why))
      (then_phase mid new x (λ g p. groups.Finishes g p) Q end c (λ y r.
      (let d = does y r in
      let n = next_phase mid new y group d.done.1.0 end r next (record { holds = d.holds; reached = d.reached; store = d.store; follows = d.follows; done = (d.done.0, d.done.1.1); represents = d.represents }) in
      record { holds = n.holds; reached = n.reached; store = n.store; follows = n.follows; done = (n.done.0, (d.done.1.0, n.done.1)); represents = n.represents })))
      (λ holds store done. stops_do x why holds store done.0 (elim done.1 [
        | inl z ↦ record { group = group; thin = z.4.0; stopped = not_went ℕ why; syncs = inl (z.0, z.1, z.2, z.3, z.4.1) }
        | inr z ↦ record { group = group; thin = 0; stopped = not_went ℕ why; syncs = inr z }
      ]))

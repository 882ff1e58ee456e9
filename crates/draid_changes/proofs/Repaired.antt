-- What the agent's call on the arms says: a closing group is finished first.
use Rattle.std.proofs.Common.{◌≡◌, ◌<◌, ◌+◌, ◌++◌, ◌∙◌, inl, inr, [], ℕ, Bool, List, Option, Some, None, Result, Ok, Err, arith, refl, sym, ap, subst}
use Rattle.std.specs.Prelude.{option_map, slice_get}
use Rattle.std.proofs.lemmas.List.{append-nil}
use Rattle.std.proofs.lemmas.Option.{slice_get_within}
use Rattle.draid_names.specs.declared.journal.Entry.{Entry}
use Rattle.draid_spec.specs.declared.layout.Geometry.{Geometry}
use Rattle.draid_perm.specs.declared.perms.Perms.{Perms}
use Rattle.draid_rack.specs.declared.Rack as racks
use Rattle.draid_area.specs.declared.Area as areas
use Rattle.draid_slots.specs.States.{pass_in}
use Rattle.draid_shard.specs.Part.{Part}
use Rattle.draid_disks.specs.Checks as checks
use Rattle.draid_session.specs.Agent as agent
use Rattle.draid_session.specs.Arms as arms
use Rattle.draid_session.specs.Groups as groups
use Rattle.draid_session.specs.Holds.{Hold, View}
use Rattle.draid_session.specs.Looks.{LooksFrom}
use Rattle.draid_session.specs.Phases.{Went}
use Rattle.draid_session.specs.State.{Metaslab, State, Store}
use Rattle.draid_pool.specs.Carries.{CarriesOut}
use Rattle.draid_pool.specs.Pools.{Represents}
use Rattle.draid_pool.specs.Syncing.{Phase, end_of}
use Rattle.draid_pool.specs.Views.{seen_at}
use Rattle.draid_pool.specs.Whole.{IsWhole}
use Rattle.draid_pool.specs.declared.fault.SyncFault.{SyncFault}
use Rattle.draid_pool.specs.declared.fault.SyncFault.TheVariants as sync
use Rattle.draid_pool.specs.declared.pool.Pool.{Pool}
use Rattle.draid_pool.proofs.Lifted.{metaslab_of}
use Rattle.draid_pool.proofs.Lists.{present}
use Rattle.draid_pool.proofs.Looking.{changes_none, looked, looks_at}
use Rattle.draid_pool.proofs.Steps.{SameLayout, carried, carries_so, follows_on, own_of, same_layout, settled}
use Rattle.draid_pool.proofs.SyncSteps.{not_went}
use Rattle.draid_changes.specs.Agent.{DueDoes, GiveDoes, Sees}
use Rattle.draid_changes.specs.declared.agent.GiveFault.{GiveFault}
use Rattle.draid_changes.specs.declared.agent.GiveFault.TheVariants as fault
use Rattle.draid_changes.proofs.Begun.{Finished}
use Rattle.draid_changes.proofs.Forbids.{lowest_seen, no_pass}

module _ {R A : Type 0} (rack : racks.Ghosts R) (area : areas.Ghosts A) (chosen : ℕ → ℕ → List ℕ → Option ℕ → Type 0) (least : ℕ) (before : List Entry) where
  -- the group couldn't be finished
  pub not_finished : (mid : Pool R A) (x : State) (why : SyncFault) → CarriesOut rack area mid x (Phase x (groups.Finishes x.geometry x.perms) (end_of {T = Unit} (Err why)))
      → CarriesOut rack area mid x (GiveDoes x chosen least before (Err (fault.Stopped why)) before)
  not_finished mid x sync.Worn c = carries_so rack area mid x _ (GiveDoes x chosen least before (Err (fault.Stopped sync.Worn)) before) c (λ holds store done. (done.0, refl, inl (not_went Unit sync.Worn, done.1)))
  not_finished mid x sync.Last c = carries_so rack area mid x _ (GiveDoes x chosen least before (Err (fault.Stopped sync.Last)) before) c (λ holds store done. (done.0, refl, inl (not_went Unit sync.Last, done.1)))
  not_finished mid x sync.Shelf c = carries_so rack area mid x _ (GiveDoes x chosen least before (Err (fault.Stopped sync.Shelf)) before) c (λ holds store done. (done.0, refl, inl (not_went Unit sync.Shelf, done.1)))
  not_finished mid x sync.NoMemory c = carries_so rack area mid x _ (GiveDoes x chosen least before (Err (fault.Stopped sync.NoMemory)) before) c (λ holds store done. (done.0, refl, inl (inl (not_went Unit sync.NoMemory, done.1))))

  module _ (mid : Pool R A) (x : State) (c : Finished rack area mid x) where
    abbrev y : State
    y = c.reached

    -- a metaslab has a pass
    pub pass_found : IsWhole rack area mid → (metaslab number : ℕ) → checks.IsLowestPass mid.metaslabs.shards.items metaslab number
        → CarriesOut rack area mid x (GiveDoes x chosen least before (Err (fault.PassThere metaslab number)) before)
    pass_found w metaslab number it =
        carried rack area mid x (c.holds ++ looks_at 0 y.metaslabs) y (GiveDoes x chosen least before (Err (fault.PassThere metaslab number)) before)
        (follows_on c.holds (looks_at 0 y.metaslabs) x y y c.follows (changes_none y [] y.metaslabs 0 refl refl)) r
        (refl, refl, record { finish = c.holds; looks = looks_at 0 y.metaslabs; views = seen_at 0 y.metaslabs; are = refl; finishes = c.done.1; looked = looking; lowest = lowest })
      where
        r : Represents rack area mid y
        r = settled rack area mid x (Phase x (groups.Finishes x.geometry x.perms) Went) c c.done.0

        looking : LooksFrom 0 x.geometry.props.metaslabs (looks_at 0 y.metaslabs) (seen_at 0 y.metaslabs)
        looking = subst (λ n. LooksFrom 0 n (looks_at 0 y.metaslabs) (seen_at 0 y.metaslabs)) (r.stands.many ∙ ap (λ (g : Geometry). g.props.metaslabs) (same_layout c.holds x y c.follows).geometry) (looked 0 y.metaslabs)

        none_lower : (m : ℕ) (u : Metaslab) → m < it.place → slice_get y.metaslabs m ≡ Some u → u.world.core.pass ≡ None
        none_lower m u less at =
            let inside = slice_get_within y.metaslabs m u at in
            let long = r.stands.shards in
            let s = present mid.metaslabs.shards.items m (omega (arith, inside, long)) in
            no_pass rack area y m (r.stands.pieces m) s.0 u (r.stands.each m s.0 u s.1 at) (it.lower m s.0 less s.1)

        lowest : arms.IsLowestPass (seen_at 0 y.metaslabs) metaslab number
        lowest =
            let z = metaslab_of rack area mid y r.stands it.place it.shard it.there in
            let place = ap (λ (p : Part). p.number) (w.shards it.place it.shard it.there).part in
            let at : 0 + it.place ≡ metaslab = (let named = it.metaslab_is in omega (arith, place, named)) in
            subst (λ m. arms.IsLowestPass (seen_at 0 y.metaslabs) m number) at
            (subst (λ n. arms.IsLowestPass (seen_at 0 y.metaslabs) (0 + it.place) n) (sym it.number_is)
            (lowest_seen 0 y.metaslabs it.place z.y (pass_in it.shard.slots it.pass) z.at (z.is.stands.is_in.pass ∙ ap (option_map (pass_in it.shard.slots)) it.has) none_lower))

    -- what came behind it
    begins : (g : Geometry) (p : Perms) → groups.Finishes g p c.holds Went → (holds : List Hold) (views : List View) (rest : List Hold) → Sees g holds views rest → agent.Begins g p chosen (c.holds ++ holds) views rest
    begins g p fin holds views rest s = record { finish = c.holds; looks = s.looks; are = ap (λ (h : List Hold). c.holds ++ h) s.are; finishes = fin; looked = s.looked; none = s.none }

    kept : (result : Result Bool GiveFault) (after : List Entry) (holds : List Hold) (store : Store) → DueDoes y chosen least before result after holds store → store ≡ y.store
    kept (Ok came) after holds store done = done.0
    kept (Err fault.Idle) after holds store done = done.0
    kept (Err (fault.Stopped why)) after holds store done = done.0
    kept (Err (fault.PassThere metaslab number)) after holds store done = absurd done

    on : (result : Result Bool GiveFault) (after : List Entry) (holds : List Hold) (store : Store) → DueDoes y chosen least before result after holds store → groups.Finishes y.geometry y.perms c.holds Went
        → GiveDoes y chosen least before result after (c.holds ++ holds) store
    on (Ok came) after holds store (same, views, rest, entries, s, are, some, came_is, gives, inl (front, back, apart, reserve, attach)) fin = (
      same,
      entries,
      are,
      some,
      came_is,
      record {
        views = views;
        back = rest;
        begins = begins y.geometry y.perms fin holds views rest s;
        gives = gives;
        reserving = front;
        coming = back;
        are = apart ∙ ap (λ (h : List Hold). front ++ h) (sym (append-nil back));
        reserves = reserve;
        comes = attach;
      },
    )
    on (Ok came) after holds store (same, views, rest, entries, s, are, some, came_is, gives, inr (stopped, reserve)) fin = absurd (stopped refl)
    on (Err fault.Idle) after holds store (same, are, views, s, none) fin = (same, are, record { views = views; begins = begins y.geometry y.perms fin holds views [] s; none = none })
    on (Err (fault.PassThere metaslab number)) after holds store done fin = absurd done
    on (Err (fault.Stopped sync.Worn)) after holds store (same, are, inl (views, rest, count, s, due, reserve)) fin =
        (same, are, inr (views, rest, count, not_went ℕ sync.Worn, begins y.geometry y.perms fin holds views rest s, due, reserve))
    on (Err (fault.Stopped sync.Worn)) after holds store (same, are, inr (wanting, only)) fin = absurd (cc)
    on (Err (fault.Stopped sync.Last)) after holds store (same, are, inl (views, rest, count, s, due, reserve)) fin =
        (same, are, inr (views, rest, count, not_went ℕ sync.Last, begins y.geometry y.perms fin holds views rest s, due, reserve))
    on (Err (fault.Stopped sync.Last)) after holds store (same, are, inr (wanting, only)) fin = absurd (cc)
    on (Err (fault.Stopped sync.Shelf)) after holds store (same, are, inl (views, rest, count, s, due, reserve)) fin =
        (same, are, inr (views, rest, count, not_went ℕ sync.Shelf, begins y.geometry y.perms fin holds views rest s, due, reserve))
    on (Err (fault.Stopped sync.Shelf)) after holds store (same, are, inr (wanting, only)) fin = absurd (cc)
    on (Err (fault.Stopped sync.NoMemory)) after holds store (same, are, inl (views, rest, count, s, due, reserve)) fin =
        (same, are, inl (inr (views, rest, count, not_went ℕ sync.NoMemory, begins y.geometry y.perms fin holds views rest s, due, reserve)))
    on (Err (fault.Stopped sync.NoMemory)) after holds store (same, are, inr (wanting, only)) fin = (same, are, inr (c.holds, holds, refl, fin, only))

    pub then_given : (new : Pool R A) (result : Result Bool GiveFault) (after : List Entry) → ((z : State) → Represents rack area mid z → CarriesOut rack area new z (DueDoes z chosen least before result after))
        → CarriesOut rack area new x (GiveDoes x chosen least before result after)
    then_given new result after next =
        carried rack area new x (c.holds ++ d.holds) d.reached (GiveDoes x chosen least before result after) (follows_on c.holds d.holds x y d.reached c.follows d.follows)
        (settled rack area new y (DueDoes y chosen least before result after) d same)
        (subst (λ t. GiveDoes x chosen least before result after (c.holds ++ d.holds) t) (same ∙ layout.store)
        (own_of x y (λ g p t. groups.Finishes g p c.holds Went → GiveDoes (record y { geometry = g; perms = p; store = t }) chosen least before result after (c.holds ++ d.holds) d.store) layout
        (on result after d.holds d.store d.done) c.done.1))
      where
        d : CarriesOut rack area new y (DueDoes y chosen least before result after)
        d = next y (settled rack area mid x (Phase x (groups.Finishes x.geometry x.perms) Went) c c.done.0)

        same : d.store ≡ y.store
        same = kept result after d.holds d.store d.done

        layout : SameLayout x y
        layout = same_layout c.holds x y c.follows

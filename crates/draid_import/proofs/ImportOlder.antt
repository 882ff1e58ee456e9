-- Of the blocks that an import finds those that have later ones, and that the checkpoint doesn't keep, are freed.
use Rattle.std.proofs.Common.{arith, ◌≡◌, ◌≢◌, ◌+◌, ◌++◌, ◌∙◌, inl, inr, ℕ, false, List, [], ◌∷◌, Some, refl, sym, ap, subst, slice_set}
use Rattle.std.specs.Prelude.{IsSome, max, slice_get}
use Rattle.std.proofs.lemmas.Bool.{cases_eq}
use Rattle.std.proofs.lemmas.Bool.Decides.{nat_tests}
use Rattle.std.proofs.lemmas.List.{length-set}
use Rattle.std.proofs.lemmas.Option.{slice_get_within}
use Rattle.draid_names.specs.declared.pointer.Pointer.{Pointer}
use Rattle.draid_rack.specs.declared.Rack as racks
use Rattle.draid_area.specs.declared.Area as areas
use Rattle.draid_machine.specs.declared.event.Event.TheVariants as event
use Rattle.draid_machine.specs.declared.names.Key.{Key}
use Rattle.draid_machine.specs.declared.names.Stage.TheVariants as stage
use Rattle.draid_objects.specs.Blocks.{SaysOf, Sets}
use Rattle.draid_objects.specs.Changes as changes
use Rattle.draid_objects.specs.Changes.{Write, write_of}
use Rattle.draid_objects.proofs.One.{one_set}
use Rattle.draid_objects.proofs.Sealing.{is_some_of, set_cases}
use Rattle.draid_objects.proofs.Sealing as sealing
use Rattle.draid_segments.specs.Segments.{Pieces}
use Rattle.draid_entries.specs.Maps.{key_of}
use Rattle.draid_shard.specs.Part.{Part}
use Rattle.draid_shard.specs.declared.shard.Shard.{Shard}
use Rattle.draid_uber.specs.declared.uber.Uber.{Uber}
use Rattle.draid_session.specs.Holds.{Did, Hold, On, view_of}
use Rattle.draid_session.specs.Points.{KeepsBirth}
use Rattle.draid_session.specs.Opening.{Frees, FreesOlder, IsLoose, IsOlder}
use Rattle.draid_session.specs.State.{Metaslab, State, Store}
use Rattle.draid_import.specs.Imported.{FreedOlder, SaysObjects, StandsFound, counted_of}
use Rattle.draid_objects.specs.Marks.{check_by, is_dropped}
use Rattle.draid_objects.specs.Stores.{IsBehindChecks, IsSpare}
use Rattle.draid_objects.proofs.Checking.{count_kept}
use Rattle.draid_pool.specs.Metaslabs.{IsMetaslab}
use Rattle.draid_pool.specs.Objects.{HoldsObjects, blocks_of, worlds_of}
use Rattle.draid_pool.specs.Pools.{part_in}
use Rattle.draid_pool.specs.Importable.{IsAlike}
use Rattle.draid_pool.specs.Records.{HasImage, LeavesAreBelow}
use Rattle.draid_pool.specs.Shards.{FreesIn, Goes}
use Rattle.draid_pool.specs.Ubers.{IsUber}
use Rattle.draid_pool.proofs.Entering.{older_holds, still}
use Rattle.draid_pool.proofs.Imaged.{alike_stays, image_kept, leaves_kept}
use Rattle.draid_pool.proofs.Lists.{get_set_other, get_set_same, present, some_of}
use Rattle.draid_pool.proofs.Moved.{blocks_at, each_set, follows_one, moves_one, with_metaslab}
use Rattle.draid_pool.proofs.Steps.{follows_both}
use Rattle.draid_pool.proofs.Marked.{marked_later, spare_of}

-- ---- holds

older_more : (x : State) (group : ℕ) (holds more : List Hold) → FreesOlder x group holds → FreesOlder x group more → FreesOlder x group (holds ++ more)
older_more x group [] more older next = next
older_more x group (On v (Did (event.Free key t) w) ∷ holds) more older next = (older.0, older.1, older_more x group holds more older.2 next)
older_more x group (hold ∷ holds) more older next = absurd older

frees_left : (m : ℕ) (key : Key) (holds more : List Hold) → Frees m key holds → Frees m key (holds ++ more)
frees_left m key [] more frees = absurd frees
frees_left m key (On v (Did (event.Free k t) w) ∷ holds) more (inl here) = inl here
frees_left m key (On v (Did (event.Free k t) w) ∷ holds) more (inr later) = inr (frees_left m key holds more later)
frees_left m key (hold ∷ holds) more frees = frees_left m key holds more frees

frees_right : (m : ℕ) (key : Key) (holds more : List Hold) → Frees m key more → Frees m key (holds ++ more)
frees_right m key [] more frees = frees
frees_right m key (On v (Did (event.Free k t) w) ∷ holds) more frees = inr (frees_right m key holds more frees)
frees_right m key (hold ∷ holds) more frees = frees_right m key holds more frees

-- what is freed has a later block
pub frees_older : (x : State) (group m : ℕ) (key : Key) (holds : List Hold) → FreesOlder x group holds → Frees m key holds → IsOlder x key
frees_older x group m key [] older frees = absurd frees
frees_older x group m key (On v (Did (event.Free k t) w) ∷ holds) older (inl here) = subst (IsOlder x) here.1 older.0.older
frees_older x group m key (On v (Did (event.Free k t) w) ∷ holds) older (inr later) = frees_older x group m key holds older.2 later
frees_older x group m key (hold ∷ holds) older frees = absurd older

-- ---- older blocks

-- the later block counts
pub later_counts : (x : State) (key : Key) (older : IsOlder x key) → IsSome (counted_of x older.m older.later)
later_counts x key older = is_some_of (counted_of x older.m older.later) older.held
    (count_kept (check_by x.store.marks) (blocks_of x.metaslabs) older.m older.later older.counts ∙ (blocks_at x.metaslabs older.m older.y older.later older.there ∙ older.found))

-- a block with a later one isn't that of its object's last write
older_key : (x : State) (key : Key) (w : Write) → SaysObjects x → IsOlder x key → write_of x.store.changes key.object ≡ Some w → changes.key_of w ≢ key
older_key x key w says older last same =
    let said : SaysOf (counted_of x) key.object (Some w) = subst (SaysOf (counted_of x) key.object) last (says key.object) in
    let seq : w.seq ≡ key.seq = ap (λ (k : Key). k.seq) same in
    let greater = older.greater in
    elim (said.others older.m older.later older.same (later_counts x key older)) [
      | inl z ↦ (let later : older.later.seq ≡ w.seq = ap (λ (k : Key). k.seq) z.1 in absurd (omega (arith, seq, greater, later)))
      | inr less ↦ absurd (omega (arith, seq, greater, less))
    ]

module _ {R A : Type 0} (rack : racks.Ghosts R) (area : areas.Ghosts A) (mid : State) (uber : Uber A) (pieces : ℕ → Pieces) where
  -- the uberblock has nothing of the metaslabs
  uber_stays : (x : State) (metaslabs : List Metaslab) → IsUber area uber x → IsUber area uber (record x { metaslabs = metaslabs })
  uber_stays x metaslabs is = record {
    valid = is.valid;
    layout = is.layout;
    version = is.version;
    kept = is.kept;
    next_leaf = is.next_leaf;
    point = is.point;
    late = is.late;
    count = is.count;
    stands = record { pending = is.stands.pending; are = is.stands.are; stands = is.stands.stands };
  }

  pub none_freed : (shards : List (Shard R A)) → StandsFound rack area shards uber pieces mid → FreedOlder rack area mid shards uber pieces
  none_freed shards stands = record {
    holds = [];
    reached = mid;
    follows = refl;
    older = tt;
    stands = stands;
    same_store = refl;
    same_group = refl;
    each = λ m key h is. inr is;
    kept = λ m key h is live. is;
  }

  module _ (says : SaysObjects mid) (shards : List (Shard R A)) (s : FreedOlder rack area mid shards uber pieces) (m : ℕ) (shard shard' : Shard R A) (there : slice_get shards m ≡ Some shard) (p : Pointer)
      (older : IsOlder mid (key_of p)) (counts : is_dropped (check_by mid.store.marks) (key_of p) ≡ false) (loose_is : KeepsBirth mid.store.marks p.birth → ⊥) (floor group : ℕ) (floor_is : floor ≡ mid.committed + 1)
      (frees : (part : Part) (pieces : Pieces) (y : Metaslab) → IsMetaslab rack area part pieces shard y → Goes rack area part pieces y shard' (FreesIn part.number p floor group y)) where
    abbrev x : State
    x = s.reached

    abbrev st : StandsFound rack area shards uber pieces x
    st = s.stands

    abbrev y_there : (y : Metaslab) × (slice_get x.metaslabs m ≡ Some y)
    y_there = (let within = slice_get_within shards m shard there in let many = st.shards_are in present x.metaslabs m (omega (arith, within, many)))

    abbrev y : Metaslab
    y = y_there.0

    at : slice_get x.metaslabs m ≡ Some y
    at = y_there.1

    abbrev g : Goes rack area (part_in x m) (pieces m) y shard' (FreesIn m p floor group y)
    g = frees (part_in x m) (pieces m) y (st.each m shard y there at)

    abbrev y' : Metaslab
    y' = g.reached

    abbrev k : Key
    k = key_of p

    group_is : group ≡ mid.committed + 1
    group_is = (let is = g.done.group_is in let opened = st.open_groups m y at in let same = s.same_group in omega (arith, is, opened, same, floor_is))

    floor_now : x.store.floor ≡ group
    floor_now = (let is = st.floor in let same = s.same_group in omega (arith, is, same, group_is))

    k_there : blocks_of x.metaslabs m k ≡ Some g.done.held
    k_there = blocks_at x.metaslabs m y k at ∙ g.done.found

    set : Sets (blocks_of x.metaslabs) (blocks_of (slice_set x.metaslabs m y')) m k (Some (record g.done.held { stage = stage.Freed group }))
    set = one_set (worlds_of x.metaslabs) (worlds_of (slice_set x.metaslabs m y')) m y.world y'.world (moves_one x.metaslabs m y y' at) k (Some (record g.done.held { stage = stage.Freed group })) g.done.made

    last : (w : Write) × (write_of x.store.changes k.object ≡ Some w)
    last = sealing.some_of (write_of x.store.changes k.object) (st.holds.stores.live m k g.done.held k_there g.done.live (ap (λ (z : Store). is_dropped (check_by z.marks) k) s.same_store ∙ counts))

    other : changes.key_of last.0 ≢ k
    other = older_key mid k last.0 says older (ap (λ (z : Store). write_of z.changes k.object) (sym s.same_store) ∙ last.1)

    -- no checkpoint keeps it from then on
    loose_now : KeepsBirth x.store.marks g.done.held.birth → ⊥
    loose_now keeps = loose_is (subst (KeepsBirth mid.store.marks) g.done.birth (subst (λ (z : Store). KeepsBirth z.marks g.done.held.birth) s.same_store keeps))

    spare : IsSpare group x.store.marks g.done.held.birth
    spare = spare_of group g.done.held.birth x.store.marks
        (marked_later (max x.store.floor (x.committed + 1)) group x.store.marks (let is = st.floor in let now = floor_now in grind (arith, nat_tests, is, now)) st.groups.marked) loose_now

    holds_then : HoldsObjects x.geometry x.committed x.store (blocks_of (slice_set x.metaslabs m y')) pieces
    holds_then = subst (λ f. HoldsObjects x.geometry x.committed (record x.store { floor = f }) (blocks_of (slice_set x.metaslabs m y')) pieces) (sym floor_now)
        (older_holds x.geometry x.committed x.store (blocks_of x.metaslabs) (blocks_of (slice_set x.metaslabs m y')) pieces st.holds m k g.done.held k_there g.done.live group (omega (arith, floor_now)) set last.0 last.1 other spare)

    each_then : (n : ℕ) (z : Shard R A) (v : Metaslab) → slice_get (slice_set shards m shard') n ≡ Some z → slice_get (slice_set x.metaslabs m y') n ≡ Some v → IsMetaslab rack area (part_in x n) (pieces n) z v
    each_then n z v a b = elim (cases_eq n m) [
      | inl is ↦
          let here : shard' ≡ z = some_of (slice_get (slice_set shards m shard') m) shard' z (get_set_same shards m shard shard' there) (subst (λ j. slice_get (slice_set shards m shard') j ≡ Some z) is a) in
          let now : y' ≡ v = some_of (slice_get (slice_set x.metaslabs m y') m) y' v (get_set_same x.metaslabs m y y' at) (subst (λ j. slice_get (slice_set x.metaslabs m y') j ≡ Some v) is b) in
          subst (λ j. IsMetaslab rack area (part_in x j) (pieces j) z v) (sym is)
          (subst (λ q. IsMetaslab rack area (part_in x m) (pieces m) q v) here (subst (λ q. IsMetaslab rack area (part_in x m) (pieces m) shard' q) now g.is))
      | inr other ↦
          let differ : n ≡ m → ⊥ = (λ is. omega (arith, is, other)) in
          st.each n z v (sym (get_set_other shards m n shard' differ) ∙ a) (sym (get_set_other x.metaslabs m n y' differ) ∙ b)
    ]

    stands_then : StandsFound rack area (slice_set shards m shard') uber pieces (with_metaslab x m y')
    stands_then = record {
      layout = st.layout;
      many = length-set x.metaslabs m y' ∙ st.many;
      shards_are = length-set shards m shard' ∙ (st.shards_are ∙ sym (length-set x.metaslabs m y'));
      each = each_then;
      holds = holds_then;
      groups = record {
        committed = each_set x.metaslabs m y y' (λ z. z.world.committed ≡ x.committed) at (g.done.committed ∙ st.groups.committed m y at) st.groups.committed;
        next = st.groups.next;
        last = st.groups.last;
        checks = each_set x.metaslabs m y y' (λ z. IsBehindChecks x.committed x.store.marks z.world.open_group) at
            (subst (IsBehindChecks x.committed x.store.marks) (sym g.done.open_group_is) (st.groups.checks m y at)) st.groups.checks;
        marked = st.groups.marked;
      };
      uber_is = uber_stays x (slice_set x.metaslabs m y') st.uber_is;
      images = λ group n v may some. each_set x.metaslabs m y y' (HasImage group) at (image_kept group y y' g.images (st.images group m y may some at)) (λ n z. st.images group n z may some) n v;
      leaves = record {
        order = st.leaves.order;
        each = each_set x.metaslabs m y y' (λ z. LeavesAreBelow x.kept_leaf x.next_leaf z.world) at (leaves_kept x.kept_leaf x.next_leaf y.world y'.world g.images (st.leaves.each m y at)) st.leaves.each;
      };
      shared = st.shared;
      versions = st.versions;
      at_version = st.at_version;
      alike = each_set x.metaslabs m y y' (λ z. IsAlike st.shared z.world) at (alike_stays st.shared y.world y'.world g.images (st.alike m y at)) st.alike;
      open_groups = each_set x.metaslabs m y y' (λ z. z.world.open_group ≡ x.committed + 1) at
          (g.done.open_group_is ∙ st.open_groups m y at) st.open_groups;
      floor = st.floor;
    }

    loose : IsLoose mid (view_of m y) k
    loose = record { older = older; held = g.done.held; there = g.done.found; loose = λ keeps. loose_is (subst (KeepsBirth mid.store.marks) g.done.birth keeps) }

    -- one older block was freed
    pub older_step : FreedOlder rack area mid (slice_set shards m shard') uber pieces
    older_step = record {
      holds = s.holds ++ g.holds;
      reached = with_metaslab x m y';
      follows = follows_both s.holds g.holds mid x (with_metaslab x m y') s.follows (follows_one m g.holds x y y' at g.follows);
      older = older_more mid mid.committed s.holds g.holds s.older (subst (FreesOlder mid mid.committed) (sym g.done.are) (loose, group_is, tt));
      stands = stands_then;
      same_store = s.same_store;
      same_group = s.same_group;
      each = λ n j h is. elim (s.each n j h is) [
        | inl gone ↦ inl (frees_left n j s.holds g.holds gone)
        | inr stays ↦ elim (set_cases (blocks_of x.metaslabs) (blocks_of (slice_set x.metaslabs m y')) m k (Some (record g.done.held { stage = stage.Freed group })) set n j) [
          | inl z ↦ inl (frees_right n j s.holds g.holds (subst (Frees n j) (sym g.done.are) (inl (z.0, z.1))))
          | inr z ↦ inr (z.0 ∙ stays)
        ]
      ];
      kept = λ n j h is live.
          s.kept n j h (still x.geometry x.committed x.store (blocks_of x.metaslabs) (blocks_of (slice_set x.metaslabs m y')) pieces st.holds m k g.done.held k_there g.done.live group (omega (arith, floor_now)) set n j h is live).0
          live;
    }

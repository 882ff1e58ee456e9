-- A write of a pool whose earlier block the checkpoint keeps: it is dropped behind the write.
use Rattle.std.proofs.Common.{◌≡◌, ◌≤◌, ◌+◌, ◌++◌, ◌⊎◌, ◌∷◌, ◌∙◌, [], inl, inr, ℕ, Bool, true, false, List, Option, Some, Ok, arith, ap, refl, sym, subst, length}
use Rattle.std.specs.Prelude.{max, slice_get}
use mathlib.Core.Logic.{dite}
use native.Mathlib.Decide.{ℕ_discrete}
use Rattle.std.proofs.lemmas.Bool.{true≢false}
use Rattle.std.proofs.lemmas.List.{append-nil}
use Rattle.sha2.specs.Sha256.{sha256}
use Rattle.draid_area.specs.declared.Area as areas
use Rattle.draid_entries.specs.Maps.{key_of}
use Rattle.draid_machine.proofs.Small.{bool_cases, key_refl, key_true}
use Rattle.draid_machine.specs.Names.{key_eq}
use Rattle.draid_machine.specs.declared.names.Held.{Held}
use Rattle.draid_machine.specs.declared.names.Key.{Key}
use Rattle.draid_machine.specs.declared.names.Stage.TheVariants.{Live}
use Rattle.draid_names.specs.declared.pointer.Pointer.{Pointer}
use Rattle.draid_names.specs.declared.room.Room.{Room}
use Rattle.draid_rack.specs.declared.Rack as racks
use Rattle.draid_spec.specs.declared.layout.Geometry.{Geometry}
use Rattle.draid_objects.specs.Changes as changes
use Rattle.draid_objects.specs.Changes.{Write, write_of}
use Rattle.draid_objects.specs.Marks.{Dropped, check_by, is_dropped}
use Rattle.draid_objects.specs.Stores.{AreMarkedUpto, IsBehindChecks}
use Rattle.draid_segments.specs.Segments.{Pieces}
use Rattle.draid_shard.specs.declared.shard.Shard.{Shard}
use Rattle.draid_session.specs.Follows.{Follows}
use Rattle.draid_session.specs.Holds.{Looked, On, View}
use Rattle.draid_session.specs.Points.{IsPointOf, KeepsBirth}
use Rattle.draid_session.specs.State.{Metaslab, State, Store}
use Rattle.draid_session.specs.Writes.{DropsBlock, LeavesEarlier}
use Rattle.draid_uber.specs.Slots.{group_of}
use Rattle.draid_uber.specs.Uber.{kept_of}
use Rattle.draid_pool.specs.Carries.{CarriesOut}
use Rattle.draid_pool.specs.Metaslabs.{IsMetaslab}
use Rattle.draid_pool.specs.Objects.{HoldsObjects, IsLastAt, blocks_of}
use Rattle.draid_pool.specs.Pools.{Represents, Stands, part_in}
use Rattle.draid_pool.specs.Threads.{Between, KnowsBut, LeadsBy, all_of, but}
use Rattle.draid_pool.specs.Whole.{IsWhole}
use Rattle.draid_pool.specs.declared.pool.Pool.{Pool}
use Rattle.draid_pool.proofs.Alone.{follows_alone}
use Rattle.draid_pool.proofs.Hiding.{but_away}
use Rattle.draid_pool.proofs.Imaged.{alike_stays, image_kept, leaves_kept}
use Rattle.draid_pool.proofs.Lists.{some_of}
use Rattle.draid_pool.proofs.Marked.{behind_later, marked_later, max_up}
use Rattle.draid_pool.proofs.Moved.{uber_stays}
use Rattle.draid_pool.proofs.OwnedKnows.{all, all_store, left_in, points_out, table_in}
use Rattle.draid_pool.proofs.OwnedStands.{AllRest, ArePlain, KeepsRest, follows_rest}
use Rattle.draid_pool.proofs.Owning.{own_is}
use Rattle.draid_pool.proofs.Steps.{follows_on}
use Rattle.draid_pool.proofs.SyncCalls.{pool_group}
use Rattle.draid_store.specs.Answers.{WriteDoes}
use Rattle.draid_store.specs.Freeing.{DropsEarlier, RepresentsBut}
use Rattle.draid_store.specs.Open.{KnowsReplaced}
use Rattle.draid_store.specs.Storing.{HasKept, WriteAwaits}
use Rattle.draid_store.proofs.Dropped.{last_counts}
use Rattle.draid_store.proofs.FreeKeeps.{same_key}
use Rattle.draid_store.proofs.Plain.{looks_plain, plain_append, tries_floor, tries_plain}
use Rattle.draid_store.proofs.Points.{point_keeps}

module _ {R A : Type 0} (rack : racks.Ghosts R) (area : areas.Ghosts A) where
  -- ---- what the pool stands for, but for one block

  module _ (pool new : Pool R A) (x : State) (r : Represents rack area pool x) (geometry : new.geometry ≡ pool.geometry) (uber : new.uber ≡ pool.uber) (w : IsWhole rack area new) (zs : List Metaslab) (store : Store) (many : length zs ≡ length x.metaslabs)
      (each : (m : ℕ) (u : Metaslab) → slice_get zs m ≡ Some u → (z : Metaslab) × (slice_get x.metaslabs m ≡ Some z) × KeepsRest z u) (lives : ℕ → Key → Bool) (pieces : ℕ → Pieces)
      (k : KnowsBut rack area all (all_of all) lives (left_in new) (table_in new) new.own.seq new.own.floor pieces (record x { metaslabs = zs; store = store })) where
    s : Stands rack area pool (table_in pool) x
    s = r.stands

    committed : (m : ℕ) (u : Metaslab) → slice_get zs m ≡ Some u → u.world.committed ≡ x.committed
    committed m u at = (let z = each m u at in z.2.committed ∙ s.groups.committed m z.0 z.1)

    holds : HoldsObjects x.geometry x.committed store (blocks_of zs) pieces
    holds = subst (λ (z : Store). HoldsObjects x.geometry x.committed z (blocks_of zs) pieces) (all_store store) (k.holds.holds x.committed (λ m u at. (let same = committed m u at in omega (arith, same))))

    floor_is : store.floor ≤ x.committed + 2
    floor_is =
        let own = k.floor in
        let next = w.floor in
        let group = pool_group rack area pool x r in
        let same = ap (λ u. group_of (kept_of u)) uber in
        omega (arith, own, next, group, same)

    checks : store.marks ≡ x.store.marks → (m : ℕ) (u : Metaslab) → slice_get zs m ≡ Some u → IsBehindChecks x.committed store.marks u.world.open_group
    checks marks m u at = (let z = each m u at in subst (λ ms. IsBehindChecks x.committed ms u.world.open_group) (sym marks)
        (behind_later x.committed x.committed z.0.world.open_group u.world.open_group x.store.marks (omega arith) z.2.images.opens (s.groups.checks m z.0 z.1)))

    marked : store.marks ≡ x.store.marks → x.store.floor ≤ store.floor → AreMarkedUpto (max store.floor (x.committed + 1)) store.marks
    marked marks up = subst (AreMarkedUpto (max store.floor (x.committed + 1))) (sym marks)
        (marked_later (max x.store.floor (x.committed + 1)) (max store.floor (x.committed + 1)) x.store.marks (max_up x.store.floor store.floor (x.committed + 1) up) s.groups.marked)

    stands_but : store.marks ≡ x.store.marks → x.store.floor ≤ store.floor → Stands rack area new (table_in new) (record x { metaslabs = zs; store = store })
    stands_but marks up = record {
      geometry = s.geometry ∙ sym geometry;
      layout = s.layout;
      many = many ∙ s.many;
      shards = (let a = w.many in let b = s.many in let c = many in let d = ap (λ (g : Geometry). g.props.metaslabs) (s.geometry ∙ sym geometry) in omega (arith, a, b, c, d));
      pieces = pieces;
      each = λ m shard u a b. (let z = k.each m shard a in subst (λ y. IsMetaslab rack area (part_in x m) (pieces m) shard y) (some_of (slice_get zs m) z.0 u z.1 b) z.2);
      holds = holds;
      groups = record { committed = committed; next = floor_is; last = (let own = k.floor in let low = w.low in omega (arith, own, low)); checks = checks marks; marked = marked marks up };
      objects = λ object. points_out new.metaslabs.shards.items (table_in new object) (write_of store.changes object) (k.objects object refl);
      seq = k.seq;
      floor = k.floor;
      uber = uber_stays rack area pool new x zs store marks uber s.uber;
      images = λ group m u may some at. (let z = each m u at in image_kept group z.0 u z.2.images (s.images group m z.0 may some z.1));
      leaves = record {
        order = s.leaves.order;
        each = λ m u at. (let z = each m u at in leaves_kept x.kept_leaf x.next_leaf z.0.world u.world z.2.images (s.leaves.each m z.0 z.1));
      };
      shared = s.shared;
      versions = s.versions;
      alike = λ m u at. (let z = each m u at in alike_stays s.shared z.0.world u.world z.2.images (s.alike m z.0 z.1));
    }

  -- ---- the write, and then the drop

  look_on : (store : Store) (v : View) (x y : State) → Follows (On v Looked ∷ []) x y → Follows (On v Looked ∷ []) (record x { store = store }) (record y { store = store })
  look_on store v x y f = (
    record f.0 { store = store },
    record { before = f.1.before; after = f.1.after; there = f.1.there; sees = f.1.sees; acts = f.1.acts; made = ap (λ (t : State). record t { store = store }) f.1.made },
    ap (λ (t : State). record t { store = store }) f.2,
  )

  module _ {S : Type 0} (went : S → ℕ → Shard R A → Shard R A → S → Type 0) (a b : S) (pool mid : Pool R A) (x : State) (r : Represents rack area pool x) (geometry : mid.geometry ≡ pool.geometry) (uber : mid.uber ≡ pool.uber) (w : IsWhole rack area mid)
      (point : Option ℕ) (is_point : IsPointOf x.store.marks point) (chosen : List Room → Option ℕ → Type 0) (object : ℕ) (bytes : List ℕ) (earlier : Pointer) (kept : HasKept point earlier)
      (c : LeadsBy rack area went false a b x (WriteAwaits x chosen object bytes point earlier) (KnowsReplaced rack area all (left_in mid) (table_in mid) mid.own.seq mid.own.floor (Some earlier) (write_of x.store.changes object))) where
    abbrev we : Write
    we = c.knows.0

    abbrev y : State
    y = record c.reached { store = c.store }

    follows : Follows c.holds x c.reached
    follows = follows_alone (Between rack area went false (part_in x)) (λ s t u v. ⊥) (λ s m old found left t g. g.alone refl) (λ s t u v is. absurd is) c.holds a x b c.reached c.follows

    rest : AllRest x c.reached
    rest = follows_rest c.holds x c.reached follows
        (subst ArePlain (sym c.done.are) (plain_append c.done.front c.done.back (tries_plain x chosen object bytes c.done.m c.done.birth c.done.columns c.done.front c.done.tries) (looks_plain c.done.back c.done.looks)))

    marks : c.store.marks ≡ x.store.marks
    marks = ap (λ (t : Store). t.marks) c.done.made

    up : x.store.floor ≤ c.store.floor
    up =
        let born = tries_floor x chosen object bytes c.done.m c.done.birth c.done.columns c.done.front c.done.tries in
        let made = ap (λ (t : Store). t.floor) c.done.made in
        omega (arith, born, made)

    keeps : KeepsBirth x.store.marks we.birth
    keeps = subst (KeepsBirth x.store.marks) c.knows.2.had.birth_is (point_keeps x.store.marks point earlier.birth is_point kept)

    abbrev reached_then : State → State
    reached_then z = record x { metaslabs = z.metaslabs; store = c.store }

    known : KnowsBut rack area all (all_of all) (but earlier.metaslab (key_of earlier) (all_of all)) (left_in mid) (table_in mid) mid.own.seq mid.own.floor c.knows.2.pieces (reached_then c.reached)
    known = subst (λ (t : State). KnowsBut rack area all (all_of all) (but earlier.metaslab (key_of earlier) (all_of all)) (left_in mid) (table_in mid) mid.own.seq mid.own.floor c.knows.2.pieces (record t { store = c.store })) rest.rest c.knows.2.but_it

    key_is : key_of earlier ≡ changes.key_of we
    key_is = same_key earlier we c.knows.2.had.object_is c.knows.2.had.seq_is

    only : (m : ℕ) (k : Key) (h : Held) → blocks_of c.reached.metaslabs m k ≡ Some h → h.stage ≡ Live → is_dropped (check_by c.store.marks) k ≡ false → ((m ≡ earlier.metaslab) × (k ≡ changes.key_of we)) ⊎ IsLastAt m k (write_of c.store.changes k.object)
    only m k h there live counts = dite (ℕ_discrete m earlier.metaslab)
        (λ here. elim (bool_cases (key_eq (key_of earlier) k)) [
          | inl same ↦ inl (here, sym (key_true (key_of earlier) k same) ∙ key_is)
          | inr other ↦ inr (others (λ at same. absurd_key other same))
        ])
        (λ isnt. inr (others (λ at same. isnt (sym at))))
      where
        absurd_key : key_eq (key_of earlier) k ≡ false → key_of earlier ≡ k → ⊥
        absurd_key other same = true≢false (sym (subst (λ j. key_eq (key_of earlier) j ≡ true) same (key_refl (key_of earlier))) ∙ other)

        others : ((earlier.metaslab ≡ m) → (key_of earlier ≡ k) → ⊥) → IsLastAt m k (write_of c.store.changes k.object)
        others away =
            subst (λ (z : Store). IsLastAt m k (write_of z.changes k.object)) (all_store c.store)
            (known.holds.only m k h (own_is (but earlier.metaslab (key_of earlier) (all_of all)) (blocks_of c.reached.metaslabs) m k (but_away (all_of all) earlier.metaslab (key_of earlier) m k away) ∙ there) live
            (subst (λ (z : Store). is_dropped (check_by z.marks) k ≡ false) (sym (all_store c.store)) counts))

    counts : is_dropped (check_by x.store.marks) (changes.key_of we) ≡ false
    counts = last_counts sha256 x.committed (max x.store.floor (x.committed + 1)) object x.store.changes x.store.marks (blocks_of x.metaslabs) we r.stands.holds.stores r.stands.groups.marked c.knows.1

    but_one : RepresentsBut rack area mid earlier we y
    but_one = subst (λ (t : State). RepresentsBut rack area mid earlier we (record t { store = c.store })) (sym rest.rest) (record {
      stands = stands_but pool mid x r geometry uber w c.reached.metaslabs c.store rest.many rest.each (but earlier.metaslab (key_of earlier) (all_of all)) c.knows.2.pieces known marks up;
      only = only;
      had = points_out mid.metaslabs.shards.items (Some earlier) (Some we) c.knows.2.had;
      kept = subst (λ ms. KeepsBirth ms we.birth) (sym marks) keeps;
      counts = subst (λ ms. is_dropped (check_by ms) (changes.key_of we) ≡ false) (sym marks) counts;
      newer = c.knows.2.newer;
      is_last = ap (write_of c.store.changes) (sym c.knows.2.had.object_is) ∙ c.knows.2.is_last;
      later = (let less = c.knows.2.later in let same = c.knows.2.had.seq_is in omega (arith, less, same));
    })

    pub write_dropped : (new : Pool R A) → ((z : State) (v : Write) → RepresentsBut rack area mid earlier v z → CarriesOut rack area new z (DropsEarlier z v z.store.floor)) → CarriesOut rack area new x (WriteDoes x chosen object bytes (Ok tt))
    write_dropped new drop = record {
      holds = c.holds ++ d.holds;
      reached = record d.reached { store = c.reached.store };
      store = d.store;
      follows = follows_on c.holds d.holds x c.reached (record d.reached { store = c.reached.store }) follows back;
      done = record {
        m = c.done.m;
        birth = c.done.birth;
        columns = c.done.columns;
        group = d.done.group;
        tried = c.done.front;
        freed = d.holds;
        are = ap (λ hs. hs ++ d.holds) (c.done.are ∙ (ap (λ hs. c.done.front ++ hs) (c.done.kept kept) ∙ append-nil c.done.front));
        tries = c.done.tries;
        few = c.done.few;
        marks = Dropped (changes.key_of we) d.done.group ∷ x.store.marks;
        leaves = subst (λ o. LeavesEarlier x.store.marks o c.done.birth d.done.group d.holds (Dropped (changes.key_of we) d.done.group ∷ x.store.marks)) (sym c.knows.1)
            (inr (keeps, subst (λ n. DropsBlock we n d.done.group d.holds) (ap (λ (t : Store). t.floor) c.done.made) d.done.drops, refl));
        made = d.done.made ∙ ap (λ (t : Store). record t { marks = Dropped (changes.key_of we) d.done.group ∷ t.marks; floor = d.done.group }) c.done.made;
      };
      represents = d.represents;
    }
      where
        d : CarriesOut rack area new y (DropsEarlier y we c.store.floor)
        d = drop y we but_one

        back : Follows d.holds c.reached (record d.reached { store = c.reached.store })
        back = subst (λ hs. Follows hs c.reached (record d.reached { store = c.reached.store })) (sym d.done.drops.looked)
            (look_on c.reached.store d.done.drops.v y d.reached (subst (λ hs. Follows hs y d.reached) d.done.drops.looked d.follows))

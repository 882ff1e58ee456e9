-- What a pool stands for behind holds by its only thread that leave groups and arms: from what the thread knows then, and from what the pool stood for.
use Rattle.std.proofs.Common.{◌≡◌, ◌<◌, ◌≤◌, ◌+◌, ◌∙◌, inl, inr, arith, ℕ, suc, Bool, true, false, List, [], ◌∷◌, Some, None, refl, sym, ap, subst, slice_set, length}
use Rattle.std.specs.Prelude.{max, slice_get, nat_lt, if◌then◌else◌, ⊤}
use Rattle.std.proofs.lemmas.Bool.{cases_eq}
use Rattle.std.proofs.lemmas.List.{length-set}
use Rattle.std.proofs.lemmas.Option.{slice_get_within}
use Rattle.draid_map.specs.Place.{IsLayout}
use Rattle.draid_spec.specs.declared.layout.Geometry.{Geometry}
use Rattle.draid_rack.specs.declared.Rack as racks
use Rattle.draid_area.specs.declared.Area as areas
use Rattle.draid_machine.specs.declared.event.Event.{Event}
use Rattle.draid_machine.specs.declared.event.Event.TheVariants.{Begin, Put, Finish, Abort, Free, Fetch, Damage, Close}
use Rattle.draid_machine.specs.After.{gone_state, live_state}
use Rattle.draid_machine.specs.State as machine
use Rattle.draid_machine.specs.Step.{Step}
use Rattle.draid_machine.proofs.Small.{none_some}
use Rattle.draid_objects.specs.Changes.{write_of}
use Rattle.draid_shard.specs.States.{part_of}
use Rattle.draid_shard.specs.declared.shard.Shard.{Shard}
use Rattle.draid_layouts.specs.Layout.{layout_of}
use Rattle.draid_session.specs.Follows.{MetaslabActs, Follows, HoldsMetaslab}
use Rattle.draid_session.specs.Holds.{Act, AreaFailed, Did, Hold, Looked, MadeLeaf, On, OnUber, RackFailed, CallStarved, Reserved, View}
use Rattle.draid_session.specs.State.{Metaslab, State, Store}
use Rattle.draid_uber.specs.Slots.{group_of}
use Rattle.draid_uber.specs.Uber as ubers
use Rattle.draid_uber.specs.Uber.{kept_of}
use Rattle.draid_pool.specs.Carries.{CarriesOut}
use Rattle.draid_pool.specs.Metaslabs.{IsMetaslab}
use Rattle.draid_pool.specs.Objects.{HoldsObjects, IsLastAt, blocks_of}
use Rattle.draid_pool.specs.Pools.{Represents, Stands, part_in}
use Rattle.draid_pool.specs.Shards.{KeepsImages}
use Rattle.draid_pool.specs.Threads.{AllStay, CarriesBy, IsWholeBy, Knows}
use Rattle.draid_pool.specs.Whole.{IsWhole, PointFits}
use Rattle.draid_pool.specs.declared.pool.Pool.{Pool}
use Rattle.draid_pool.proofs.Alone.{carries_alone}
use Rattle.draid_shard.specs.Alike.{ShareArms}
use Rattle.draid_shard.specs.Fits.{IsLeaf}
use Rattle.draid_pool.proofs.Arms.{Shared, all_shared}
use Rattle.draid_pool.proofs.Imaged.{LeavesImages, alike_stays, image_kept, keeps_same, keeps_then, leaves_kept, step_keeps}
use Rattle.draid_pool.proofs.Lists.{get_set_other, get_set_same, present, some_of}
use Rattle.draid_pool.proofs.Marked.{behind_later, marked_later, max_up}
use Rattle.draid_pool.proofs.Moved.{uber_stays}
use Rattle.draid_objects.specs.Marks.{check_by, is_dropped}
use Rattle.draid_objects.specs.Stores.{AreMarkedUpto, IsBehindChecks}
use Rattle.draid_pool.proofs.OwnedKnows.{all, all_store, left_in, points_out, table_in}
use Rattle.draid_pool.proofs.SyncCalls.{pool_group}
use Rattle.draid_pool.proofs.Versions.{same_uber_layout}

-- ---- holds that leave groups and arms

-- a hold of a metaslab whose event, if it has one, leaves the images and the arms
abbrev pub IsPlain : Hold → Type 0
IsPlain (On v (Did e w)) = LeavesImages e
IsPlain (On v act) = ⊤
IsPlain (OnUber u act) = ⊥

abbrev pub ArePlain : List Hold → Type 0
ArePlain [] = ⊤
ArePlain (hold ∷ holds) = IsPlain hold × ArePlain holds

-- the images, the arms and the committed group are as they were
pub record KeepsRest (x y : Metaslab) : Type 0 where
  pub images : KeepsImages x.world y.world
  pub committed : y.world.committed ≡ x.world.committed

rest_same : (x : Metaslab) → KeepsRest x x
rest_same x = record { images = keeps_same x.world; committed = refl }

rest_then : (x y z : Metaslab) → KeepsRest x y → KeepsRest y z → KeepsRest x z
rest_then x y z a b = record { images = keeps_then x.world y.world z.world a.images b.images; committed = b.committed ∙ a.committed }

step_committed : (l : machine.Layout) (w v : machine.State) (e : Event) → Step l w e v → LeavesImages e → v.committed ≡ w.committed
step_committed l w v (Begin key first stripes len birth digest) step leaves = ap (λ (s : machine.State). s.committed) step.made
step_committed l w v (Put key landed failed) step leaves = ap (λ (s : machine.State). s.committed) step.made
step_committed l w v (Finish key) step leaves = ap (λ (s : machine.State). s.committed) step.made ∙ ended (nat_lt l.parity step.m)
  where
    ended : (b : Bool) → (if b then gone_state w key else live_state w key step.h).committed ≡ w.committed
    ended true = refl
    ended false = refl
step_committed l w v (Abort key) step leaves = ap (λ (s : machine.State). s.committed) step.made
step_committed l w v (Free key group) step leaves = ap (λ (s : machine.State). s.committed) step.made
step_committed l w v (Fetch key failed) step leaves = ap (λ (s : machine.State). s.committed) step.made
step_committed l w v (Damage leaf sector failed) step leaves = ap (λ (s : machine.State). s.committed) step.made
step_committed l w v (Close group) step leaves = ap (λ (s : machine.State). s.committed) step.made
step_committed l w v e step leaves = absurd leaves

world_rests : (x y : Metaslab) → y.world ≡ x.world → KeepsRest x y
world_rests x y same = record { images = subst (KeepsImages x.world) (sym same) (keeps_same x.world); committed = ap (λ (s : machine.State). s.committed) same }

acts_rest : (l : machine.Layout) (v : View) (act : Act) (x y : Metaslab) → MetaslabActs l act x y → IsPlain (On v act) → KeepsRest x y
acts_rest l v Looked x y a plain = world_rests x y (ap (λ (k : Metaslab). k.world) a)
acts_rest l v (Did e w) x y a plain = record {
  images = subst (KeepsImages x.world) (sym a.world) (step_keeps l x.world w e a.legal plain);
  committed = ap (λ (s : machine.State). s.committed) a.world ∙ step_committed l x.world w e a.legal plain;
}
acts_rest l v (Reserved n) x y a plain = world_rests x y (ap (λ (k : Metaslab). k.world) a)
acts_rest l v (MadeLeaf leaf) x y a plain = world_rests x y a.0.world
acts_rest l v (AreaFailed group) x y a plain = world_rests x y a.0.world
acts_rest l v RackFailed x y a plain = world_rests x y a.0.world
acts_rest l v CallStarved x y a plain = world_rests x y a.0.world

-- so of all metaslabs of a state, and what it has besides is the same
pub record AllRest (x y : State) : Type 0 where
  pub many : length y.metaslabs ≡ length x.metaslabs
  pub each : (m : ℕ) (u : Metaslab) → slice_get y.metaslabs m ≡ Some u → (z : Metaslab) × (slice_get x.metaslabs m ≡ Some z) × KeepsRest z u
  pub rest : y ≡ record x { metaslabs = y.metaslabs }

all_same : (x : State) → AllRest x x
all_same x = record { many = refl; each = λ m u at. (u, at, rest_same u); rest = refl }

all_then : (x y z : State) → AllRest x y → AllRest y z → AllRest x z
all_then x y z a b = record {
  many = b.many ∙ a.many;
  each = λ m u at. (let v = b.each m u at in let w = a.each m v.0 v.1 in (w.0, w.1, rest_then w.0 v.0 u w.2 v.2));
  rest = b.rest ∙ ap (λ (s : State). record s { metaslabs = z.metaslabs }) a.rest;
}

hold_rests : (v : View) (act : Act) (x y : State) → HoldsMetaslab v act x y → IsPlain (On v act) → AllRest x y
hold_rests v act x y h plain = subst (AllRest x) (sym h.made) (record {
  many = length-set x.metaslabs v.metaslab h.after;
  each = each;
  rest = refl;
})
  where
    each : (m : ℕ) (u : Metaslab) → slice_get (slice_set x.metaslabs v.metaslab h.after) m ≡ Some u → (z : Metaslab) × (slice_get x.metaslabs m ≡ Some z) × KeepsRest z u
    each m u at = elim (cases_eq m v.metaslab) [
      | inl same ↦
          let u_is : h.after ≡ u = some_of (slice_get (slice_set x.metaslabs v.metaslab h.after) v.metaslab) h.after u (get_set_same x.metaslabs v.metaslab h.before h.after h.there)
          (subst (λ k. slice_get (slice_set x.metaslabs v.metaslab h.after) k ≡ Some u) same at) in
          (h.before, ap (slice_get x.metaslabs) same ∙ h.there, subst (KeepsRest h.before) u_is (acts_rest (layout_of x.geometry x.perms v.metaslab) v act h.before h.after h.acts plain))
      | inr other ↦ (u, sym (get_set_other x.metaslabs v.metaslab m h.after (λ same. omega (arith, same, other))) ∙ at, rest_same u)
    ]

pub follows_rest : (holds : List Hold) (x y : State) → Follows holds x y → ArePlain holds → AllRest x y
follows_rest [] x y f plain = subst (AllRest x) (sym f) (all_same x)
follows_rest (On v act ∷ holds) x y f plain = all_then x f.0 y (hold_rests v act x f.0 f.1 plain.0) (follows_rest holds f.0 y f.2 plain.1)
follows_rest (OnUber u act ∷ holds) x y f plain = absurd plain.0

module _ {R A : Type 0} (rack : racks.Ghosts R) (area : areas.Ghosts A) where
  -- ---- whatever is known of the devices

  same_long : {T : Type 0} (xs ys : List T) → ((m : ℕ) (x : T) → slice_get xs m ≡ Some x → (y : T) × (slice_get ys m ≡ Some y)) → ((m : ℕ) → slice_get xs m ≡ None → slice_get ys m ≡ None) → length ys ≡ length xs
  same_long [] [] there gone = refl
  same_long [] (y ∷ ys) there gone = absurd (none_some (slice_get (y ∷ ys) 0) y (gone 0 refl) refl)
  same_long (x ∷ xs) [] there gone = absurd (let z = there 0 x refl in let e : None ≡ Some z.0 = z.1 in cc)
  same_long (x ∷ xs) (y ∷ ys) there gone = ap suc (same_long xs ys (λ m. there (suc m)) (λ m. gone (suc m)))

  module _ (pool new : Pool R A) (w : IsWhole rack area pool) (geometry : new.geometry ≡ pool.geometry) (uber : new.uber ≡ pool.uber) (stay : AllStay all (left_in pool) (left_in new)) where
    many_left : length new.metaslabs.shards.items ≡ length pool.metaslabs.shards.items
    many_left = same_long pool.metaslabs.shards.items new.metaslabs.shards.items (λ m shard at. (let z = stay.each m shard at in (z.0, z.1))) stay.absent

    pub whole_left : IsWholeBy rack all (left_in new) (table_in new) new.own.seq new.own.floor → PointFits 0 (ubers.point_of new.uber) (table_in new) new.own.seq → IsWhole rack area new
    whole_left by fits = record {
      perms = w.perms;
      layout = subst (λ g. IsLayout g w.perms) (sym geometry) w.layout;
      many = many_left ∙ (w.many ∙ ap (λ (g : Geometry). g.props.metaslabs) (sym geometry));
      shards = λ m shard at. (
          let was = present pool.metaslabs.shards.items m (let inside = slice_get_within new.metaslabs.shards.items m shard at in let many = many_left in omega (arith, inside, many)) in
          let z = stay.each m was.0 was.1 in
          let same : z.0 ≡ shard = some_of (left_in new m) z.0 shard z.1 at in
          let held = by.shards m shard at in
          let is = w.shards m was.0 was.1 in
          record {
            valid = held.valid;
            part = ap (λ (s : Shard R A). part_of s) (sym same) ∙ (z.2.part ∙ (is.part ∙ ap (λ (g : Geometry). record { geometry = g; perms = w.perms; number = m }) (sym geometry)));
            numbered = λ key h. held.numbered key h refl;
            settled = λ key h. held.settled key h refl;
            committed = ap (λ (s : Shard R A). s.committed) (sym same) ∙ ((z.2.groups refl).groups.committed ∙ (is.committed ∙ ap (λ u. group_of (kept_of u)) (sym uber)));
            leaves = λ leaf own. subst (λ u. leaf < ubers.next_leaf_of u) (sym uber)
                (is.leaves leaf ((z.2.groups refl).leaves leaf (subst (λ (s : Shard R A). IsLeaf s.slots leaf) (sym same) own)));
          }
          );
      alike = all_shared pool.metaslabs.shards.items new.metaslabs.shards.items had w.alike;
      uber = subst (λ u. ubers.Valid area.size u) (sym uber) w.uber;
      uber_layout = same_uber_layout pool.uber new.uber pool.geometry new.geometry uber geometry w.uber_layout;
      objects = λ object pointer at. (let p = by.pointers object pointer at in record { object_is = p.object_is; shard = p.shard; there = p.there; live = p.live });
      floor = floor;
      low = by.low;
      near = by.reached;
      point = fits;
      behind = behind;
    }
      where
        behind : (own k : ℕ) (z : Shard R A) → (ubers.point_of new.uber).group ≡ Some own → slice_get new.metaslabs.shards.items k ≡ Some z → own < z.open_group
        behind own k z is at =
            let was = present pool.metaslabs.shards.items k (let inside = slice_get_within new.metaslabs.shards.items k z at in let many = many_left in omega (arith, inside, many)) in
            let s = stay.each k was.0 was.1 in
            let same : s.0 ≡ z = some_of (left_in new k) s.0 z s.1 at in
            let low = w.behind own k was.0 (ap (λ u. (ubers.point_of u).group) (sym uber) ∙ is) was.1 in
            let open_is = (s.2.groups refl).groups.open_group_is in
            subst (λ (q : Shard R A). own < q.open_group) same (omega (arith, low, open_is))

        had : (k : ℕ) (s : Shard R A) → slice_get new.metaslabs.shards.items k ≡ Some s → Shared pool.metaslabs.shards.items k s
        had k s at =
            let was = present pool.metaslabs.shards.items k (let inside = slice_get_within new.metaslabs.shards.items k s at in let many = many_left in omega (arith, inside, many)) in
            let z = stay.each k was.0 was.1 in
            let same : z.0 ≡ s = some_of (left_in new k) z.0 s z.1 at in
            record { before = was.0; there = was.1; slots = subst (λ (q : Shard R A). ShareArms was.0.slots q.slots) same (z.2.groups refl).arms }

        floor : new.own.floor ≤ group_of (kept_of new.uber) + 2
        floor =
            let some = w.layout.geometry_is.props.some_metaslabs in
            let many = w.many in
            let was = present pool.metaslabs.shards.items 0 (omega (arith, some, many)) in
            let z = stay.each 0 was.0 was.1 in
            let next = by.next 0 z.0 refl z.1 in
            let same = (z.2.groups refl).groups.committed in
            let is = (w.shards 0 was.0 was.1).committed in
            let group = ap (λ u. group_of (kept_of u)) uber in
            omega (arith, next, same, is, group)

  -- ---- states

  module _ (pool new : Pool R A) (x : State) (r : Represents rack area pool x) (geometry : new.geometry ≡ pool.geometry) (uber : new.uber ≡ pool.uber) (w : IsWhole rack area new) where
    s : Stands rack area pool (table_in pool) x
    s = r.stands

    module _ (zs : List Metaslab) (store : Store) (many : length zs ≡ length x.metaslabs) (each : (m : ℕ) (u : Metaslab) → slice_get zs m ≡ Some u → (z : Metaslab) × (slice_get x.metaslabs m ≡ Some z) × KeepsRest z u)
        (k : Knows rack area all (left_in new) (table_in new) new.own.seq new.own.floor (record x { metaslabs = zs; store = store })) where
      committed : (m : ℕ) (u : Metaslab) → slice_get zs m ≡ Some u → u.world.committed ≡ x.committed
      committed m u at = (let z = each m u at in z.2.committed ∙ s.groups.committed m z.0 z.1)

      holds : HoldsObjects x.geometry x.committed store (blocks_of zs) k.pieces
      holds = subst (λ (z : Store). HoldsObjects x.geometry x.committed z (blocks_of zs) k.pieces) (all_store store)
          (k.but_it.holds.holds x.committed (λ m u at. (let same = committed m u at in omega (arith, same))))

      floor_is : store.floor ≤ x.committed + 2
      floor_is =
          let own = k.but_it.floor in
          let next = w.floor in
          let group = pool_group rack area pool x r in
          let same = ap (λ u. group_of (kept_of u)) uber in
          omega (arith, own, next, group, same)

      checks : store.marks ≡ x.store.marks → (m : ℕ) (u : Metaslab) → slice_get zs m ≡ Some u → IsBehindChecks x.committed store.marks u.world.open_group
      checks marks m u at = (let z = each m u at in subst (λ ms. IsBehindChecks x.committed ms u.world.open_group) (sym marks)
          (behind_later x.committed x.committed z.0.world.open_group u.world.open_group x.store.marks (omega arith) z.2.images.opens (s.groups.checks m z.0 z.1)))

      marked : store.marks ≡ x.store.marks → x.store.floor ≤ store.floor → AreMarkedUpto (max store.floor (x.committed + 1)) store.marks
      marked marks up = subst (AreMarkedUpto (max store.floor (x.committed + 1))) (sym marks)
          (marked_later (max x.store.floor (x.committed + 1)) (max store.floor (x.committed + 1)) x.store.marks (max_up x.store.floor store.floor (x.committed + 1) up) s.groups.marked)

      -- where nothing befell the checkpoint
      pub stands_left : store.marks ≡ x.store.marks → x.store.floor ≤ store.floor → Represents rack area new (record x { metaslabs = zs; store = store })
      stands_left marks up = record {
        stands = record {
          geometry = s.geometry ∙ sym geometry;
          layout = s.layout;
          many = many ∙ s.many;
          shards = (let a = w.many in let b = s.many in let c = many in let d = ap (λ (g : Geometry). g.props.metaslabs) (s.geometry ∙ sym geometry) in omega (arith, a, b, c, d));
          pieces = k.pieces;
          each = λ m shard u a b. (let z = k.but_it.each m shard a in subst (λ y. IsMetaslab rack area (part_in x m) (k.pieces m) shard y) (some_of (slice_get zs m) z.0 u z.1 b) z.2);
          holds = holds;
          groups = record { committed = committed; next = floor_is; last = (let own = k.but_it.floor in let low = w.low in omega (arith, own, low)); checks = checks marks; marked = marked marks up };
          objects = λ object. points_out new.metaslabs.shards.items (table_in new object) (write_of store.changes object) (k.but_it.objects object refl);
          seq = k.but_it.seq;
          floor = k.but_it.floor;
          uber = uber_stays rack area pool new x zs store marks uber s.uber;
          images = λ group m u may some at. (let z = each m u at in image_kept group z.0 u z.2.images (s.images group m z.0 may some z.1));
          leaves = record {
            order = s.leaves.order;
            each = λ m u at. (let z = each m u at in leaves_kept x.kept_leaf x.next_leaf z.0.world u.world z.2.images (s.leaves.each m z.0 z.1));
          };
          shared = s.shared;
          versions = s.versions;
          alike = λ m u at. (let z = each m u at in alike_stays s.shared z.0.world u.world z.2.images (s.alike m z.0 z.1));
        };
        only = λ m key h there live counts. subst (λ (z : Store). IsLastAt m key (write_of z.changes key.object)) (all_store store) (k.but_it.holds.only m key h there live (subst (λ (z : Store). is_dropped (check_by z.marks) key ≡ false) (sym (all_store store)) counts));
      }

    -- a command of the only thread is one of the pool
    pub carries_out : {S : Type 0} (went : S → ℕ → Shard R A → Shard R A → S → Type 0) (a b : S) (does : List Hold → Store → Type 0) → ((holds : List Hold) (store : Store) → does holds store → ArePlain holds × (store.marks ≡ x.store.marks) × (x.store.floor ≤ store.floor))
        → CarriesBy rack area went false all (left_in new) (table_in new) new.own.seq new.own.floor a b x does → CarriesOut rack area new x does
    carries_out went a b does plain c = record {
      holds = c.holds;
      reached = c.reached;
      store = c.store;
      follows = follows;
      done = c.done;
      represents = subst (λ (y : State). Represents rack area new (record y { store = c.store })) (sym rest.rest)
          (stands_left c.reached.metaslabs c.store rest.many rest.each
          (subst (λ (y : State). Knows rack area all (left_in new) (table_in new) new.own.seq new.own.floor (record y { store = c.store })) rest.rest c.knows) told.1 told.2);
    }
      where
        told : ArePlain c.holds × (c.store.marks ≡ x.store.marks) × (x.store.floor ≤ c.store.floor)
        told = plain c.holds c.store c.done

        follows : Follows c.holds x c.reached
        follows = carries_alone rack area went all (left_in new) (table_in new) new.own.seq new.own.floor a b x does c

        rest : AllRest x c.reached
        rest = follows_rest c.holds x c.reached follows told.0

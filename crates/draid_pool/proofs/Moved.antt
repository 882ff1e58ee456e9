-- One metaslab of a pool moves, and the others stay.
use Rattle.std.proofs.Common.{◌≡◌, ◌==◌, ◌≤◌, ◌+◌, ◌∙◌, inl, inr, ℕ, Bool, true, false, List, [], ◌∷◌, Option, Some, arith, refl, sym, ap, subst, slice_set, length, if◌then◌else◌}
use Rattle.std.specs.Prelude.{◌↔◌, ◌<◌, max, option_map, slice_get}
use Rattle.std.proofs.lemmas.Bool.{cases_eq}
use Rattle.std.proofs.lemmas.List.{length-set}
use Rattle.draid_names.specs.declared.numbers.TheConstants.{LAST_NUMBER}
use Rattle.draid_names.specs.declared.pointer.Pointer.{Pointer}
use Rattle.draid_rack.specs.declared.Rack as racks
use Rattle.draid_area.specs.declared.Area as areas
use Rattle.draid_machine.specs.declared.names.Key.{Key}
use Rattle.draid_machine.proofs.Small.{equal, is_equal}
use Rattle.draid_segments.specs.Segments.{Pieces}
use Rattle.draid_objects.specs.Blocks.{MovesOne, table_of}
use Rattle.draid_objects.specs.Changes.{Write, write_of}
use Rattle.draid_entries.specs.Maps.{key_of}
use Rattle.draid_shard.specs.Looks.{IsLive}
use Rattle.draid_shard.specs.Part.{Part, layout_in}
use Rattle.draid_shard.specs.declared.shard.Shard.{Shard}
use Rattle.draid_session.specs.Follows as follows
use Rattle.draid_session.specs.Follows.{Follows}
use Rattle.draid_session.specs.Holds.{Hold}
use Rattle.draid_session.specs.State.{Metaslab, State, Store}
use Rattle.draid_pool.specs.Metaslabs.{IsMetaslab}
use Rattle.draid_pool.specs.Objects.{HoldsObjects, IsPointerOf, PointsTo, blocks_of, worlds_of}
use Rattle.draid_pool.specs.Pools.{Stands, part_in}
use Rattle.draid_pool.specs.Records.{HasImage, LeavesAreBelow}
use Rattle.draid_pool.specs.Importable.{IsAlike}
use Rattle.draid_pool.specs.Shards.{FollowsIn, KeepsImages}
use Rattle.draid_uber.specs.Checks.{AreasStand, told_by}
use Rattle.draid_uber.specs.Uber.{areas_of, changed_of}
use Rattle.draid_pool.specs.Ubers.{IsUber, check_told, kept_in}
use Rattle.draid_pool.specs.declared.pool.Pool.{Pool}
use Rattle.draid_pool.proofs.Imaged.{alike_stays, image_kept, leaves_kept}
use Rattle.draid_pool.proofs.Lists.{ext, get_set_other, get_set_same, set_back, set_twice, some_of}
use Rattle.draid_pool.proofs.Lives.{held_by, live_by}
use Rattle.draid_pool.proofs.Marked.{behind_later, marked_later, max_up}
use Rattle.draid_machine.specs.State as machine
use Rattle.draid_objects.specs.Stores.{AreMarkedUpto, IsBehindChecks}
use Rattle.draid_session.specs.Points.{HasLateMark}

-- the state in which metaslab m is this
abbrev pub with_metaslab : State → ℕ → Metaslab → State
with_metaslab x m y = record x { metaslabs = slice_set x.metaslabs m y }

-- ---- holds

pub follows_one : (m : ℕ) (holds : List Hold) (x : State) (y y' : Metaslab) → slice_get x.metaslabs m ≡ Some y → FollowsIn (layout_in (part_in x m)) m holds y y' → Follows holds x (with_metaslab x m y')
follows_one m [] x y y' there f = ap (λ ys. record x { metaslabs = ys }) (ap (λ z. slice_set x.metaslabs m z) f ∙ set_back x.metaslabs m y there)
follows_one m (hold ∷ holds) x y y' there f =
    let mid = f.1 in
    let rest = follows_one m holds (with_metaslab x m mid) mid y' (get_set_same x.metaslabs m y mid there) f.4 in (
      with_metaslab x m mid,
      subst (λ h. follows.Holds h x (with_metaslab x m mid)) (sym f.2) (record { before = y; after = mid; there = there; sees = refl; acts = f.3; made = refl }),
      subst (Follows holds (with_metaslab x m mid)) (ap (λ ys. record x { metaslabs = ys }) (set_twice x.metaslabs m mid y')) rest,
    )

-- ---- blocks

world_there : (ys : List Metaslab) (m : ℕ) (y : Metaslab) → slice_get ys m ≡ Some y → worlds_of ys m ≡ Some y.world
world_there ys m y there = ap (option_map (λ (z : Metaslab). z.world)) there

pub moves_one : (ys : List Metaslab) (m : ℕ) (y y' : Metaslab) → slice_get ys m ≡ Some y → MovesOne (worlds_of ys) (worlds_of (slice_set ys m y')) m y.world y'.world
moves_one ys m y y' there = record {
  was = world_there ys m y there;
  is = world_there (slice_set ys m y') m y' (get_set_same ys m y y' there);
  others = λ k other. ap (option_map (λ (z : Metaslab). z.world)) (get_set_other ys m k y' other);
}

pub blocks_at : (ys : List Metaslab) (m : ℕ) (y : Metaslab) (k : Key) → slice_get ys m ≡ Some y → blocks_of ys m k ≡ y.world.core.held k
blocks_at ys m y k there = ap (λ w. table_of w k) (world_there ys m y there)

-- where a metaslab holds the same
pub same_blocks : (ys : List Metaslab) (m : ℕ) (y y' : Metaslab) → slice_get ys m ≡ Some y → y'.world.core.held ≡ y.world.core.held → blocks_of (slice_set ys m y') ≡ blocks_of ys
same_blocks ys m y y' there same = ext (blocks_of (slice_set ys m y')) (blocks_of ys) by
  where
    by : (k : ℕ) → blocks_of (slice_set ys m y') k ≡ blocks_of ys k
    by k = elim (cases_eq k m) [
      | inl is ↦
          subst (λ j. blocks_of (slice_set ys m y') j ≡ blocks_of ys j) (sym is)
          (ap table_of (world_there (slice_set ys m y') m y' (get_set_same ys m y y' there)) ∙ (same ∙ sym (ap table_of (world_there ys m y there))))
      | inr other ↦ ap (λ w. table_of (option_map (λ (z : Metaslab). z.world) w)) (get_set_other ys m k y' (λ is. omega (arith, is, other)))
    ]

-- ---- pieces

-- those of one metaslab are others
abbrev pub turn : ℕ → Pieces → (ℕ → Pieces) → ℕ → Pieces
turn m now pieces k = if k == m then now else pieces k

pub turn_here : (m : ℕ) (now : Pieces) (pieces : ℕ → Pieces) → turn m now pieces m ≡ now
turn_here m now pieces = ap (λ b. if b then now else pieces m) (equal m m refl)

pub turn_other : (m k : ℕ) (now : Pieces) (pieces : ℕ → Pieces) → (k ≡ m → ⊥) → turn m now pieces k ≡ pieces k
turn_other m k now pieces other = by (k == m) refl
  where
    by : (b : Bool) → (k == m) ≡ b → turn m now pieces k ≡ pieces k
    by true is = absurd (other (is_equal k m is))
    by false is = ap (λ b. if b then now else pieces k) is

pub turn_back : (m : ℕ) (pieces : ℕ → Pieces) → turn m (pieces m) pieces ≡ pieces
turn_back m pieces = ext (turn m (pieces m) pieces) pieces (λ k. elim (cases_eq k m) [
  | inl is ↦ subst (λ j. turn m (pieces m) pieces j ≡ pieces j) (sym is) (turn_here m (pieces m) pieces)
  | inr other ↦ turn_other m k (pieces m) pieces (λ is. omega (arith, is, other))
])

-- ---- a pool of which one shard moved

-- what is so of each metaslab, and of another one at its place
pub each_set : (xs : List Metaslab) (m : ℕ) (y y' : Metaslab) (P : Metaslab → Type 0) → slice_get xs m ≡ Some y → P y' → ((k : ℕ) (v : Metaslab) → slice_get xs k ≡ Some v → P v)
    → (k : ℕ) (v : Metaslab) → slice_get (slice_set xs m y') k ≡ Some v → P v
each_set xs m y y' P at is each k v there = elim (cases_eq k m) [
  | inl same ↦ subst P (some_of (slice_get (slice_set xs m y') m) y' v (get_set_same xs m y y' at) (subst (λ j. slice_get (slice_set xs m y') j ≡ Some v) same there)) is
  | inr other ↦ each k v (sym (get_set_other xs m k y' (λ same. omega (arith, same, other))) ∙ there)
]

module _ {R A : Type 0} (rack : racks.Ghosts R) (area : areas.Ghosts A) where
  -- the uberblock has nothing of the metaslabs
  pub uber_stays : (old new : Pool R A) (x : State) (metaslabs : List Metaslab) (store : Store) → store.marks ≡ x.store.marks → new.uber ≡ old.uber → IsUber area old.uber x
      → IsUber area new.uber (record x { metaslabs = metaslabs; store = store })
  uber_stays old new x metaslabs store marks same is = subst (λ u. IsUber area u (record x { metaslabs = metaslabs; store = store })) (sym same) (record {
    valid = is.valid;
    layout = is.layout;
    version = is.version;
    kept = is.kept;
    next_leaf = is.next_leaf;
    point = λ group late. is.point group late ∙ ap (λ ms. check_told ms group) (sym marks);
    late = λ group above. subst (λ ms. HasLateMark group ms ↔ (group < changed_of old.uber)) (sym marks) (is.late group above);
    count = is.count;
    stands = record {
      pending = is.stands.pending;
      are = is.stands.are;
      stands = subst (λ ms. AreasStand (check_told ms) (kept_in x) is.stands.pending (told_by area.told (areas_of old.uber))) (sym marks) is.stands.stands;
    };
  })

  pub record Turned (m : ℕ) (pool new : Pool R A) (shard shard' : Shard R A) (x : State) (y y' : Metaslab) (now : Pieces) : Type 0 where
    pub there : slice_get pool.metaslabs.shards.items m ≡ Some shard
    pub sets : new.metaslabs.shards.items ≡ slice_set pool.metaslabs.shards.items m shard'
    pub geometry : new.geometry ≡ pool.geometry
    pub at : slice_get x.metaslabs m ≡ Some y
    pub is : IsMetaslab rack area (part_in x m) now shard' y'
    pub committed : y'.world.committed ≡ y.world.committed
    pub images : KeepsImages y.world y'.world
    pub uber : new.uber ≡ pool.uber

  -- a block that the moved metaslab has yet is live there
  pub pointer_on : (m : ℕ) (pool new : Pool R A) (shard shard' : Shard R A) (table : ℕ → Option Pointer) (x : State) (y y' : Metaslab) (now : Pieces) (p : Pointer) (w : Write)
      → Stands rack area pool table x → Turned m pool new shard shard' x y y' now
      → (p.metaslab ≡ m → y'.world.core.held (key_of p) ≡ y.world.core.held (key_of p)) → IsPointerOf pool.metaslabs.shards.items p w → IsPointerOf new.metaslabs.shards.items p w
  pointer_on m pool new shard shard' table x y y' now p w s t same of = elim (cases_eq p.metaslab m) [
    | inl is ↦
        let was : of.shard ≡ shard = some_of (slice_get pool.metaslabs.shards.items m) of.shard shard (subst (λ k. slice_get pool.metaslabs.shards.items k ≡ Some of.shard) is of.there) t.there in
        let before = s.each m shard y t.there t.at in
        let held = held_by shard y.world p before.stands.is_in (subst (λ z. IsLive z p) was of.live) in
        record {
          object_is = of.object_is;
          seq_is = of.seq_is;
          metaslab_is = of.metaslab_is;
          birth_is = of.birth_is;
          len_is = of.len_is;
          digest_is = of.digest_is;
          shard = shard';
          there = ap (λ k. slice_get new.metaslabs.shards.items k) is ∙ (ap (λ zs. slice_get zs m) t.sets ∙ get_set_same pool.metaslabs.shards.items m shard shard' t.there);
          live = live_by rack shard' y'.world p t.is.valid t.is.stands.is_in (same is ∙ held) (is ∙ sym (ap (λ (q : Part). q.number) t.is.part_is));
        }
    | inr other ↦
        record {
          object_is = of.object_is;
          seq_is = of.seq_is;
          metaslab_is = of.metaslab_is;
          birth_is = of.birth_is;
          len_is = of.len_is;
          digest_is = of.digest_is;
          shard = of.shard;
          there = ap (λ zs. slice_get zs p.metaslab) t.sets ∙ (get_set_other pool.metaslabs.shards.items m p.metaslab shard' (λ is. omega (arith, is, other)) ∙ of.there);
          live = of.live;
        }
  ]

  -- what the pool stands for then, where this is said of its objects
  pub stands_turned : (m : ℕ) (pool new : Pool R A) (shard shard' : Shard R A) (table table' : ℕ → Option Pointer) (x : State) (y y' : Metaslab) (now : Pieces) (store : Store)
      → (s : Stands rack area pool table x) → Turned m pool new shard shard' x y y' now
      → HoldsObjects x.geometry x.committed store (blocks_of (slice_set x.metaslabs m y')) (turn m now s.pieces)
      → store.marks ≡ x.store.marks → x.store.floor ≤ store.floor → store.floor ≤ x.committed + 2 → store.floor ≤ LAST_NUMBER
      → ((object : ℕ) → PointsTo new.metaslabs.shards.items (table' object) (write_of store.changes object)) → store.seq ≡ new.own.seq → store.floor ≡ new.own.floor
      → Stands rack area new table' (record x { metaslabs = slice_set x.metaslabs m y'; store = store })
  stands_turned m pool new shard shard' table table' x y y' now store s t holds marks up next last objects seq floor = record {
    geometry = s.geometry ∙ sym t.geometry;
    layout = s.layout;
    many = length-set x.metaslabs m y' ∙ s.many;
    shards = ap (λ zs. length zs) t.sets ∙ (length-set pool.metaslabs.shards.items m shard' ∙ (s.shards ∙ sym (length-set x.metaslabs m y')));
    pieces = turn m now s.pieces;
    each = each;
    holds = holds;
    groups = record {
      committed = committed;
      next = next;
      last = last;
      checks = each_set x.metaslabs m y y' (λ z. IsBehindChecks x.committed store.marks z.world.open_group) t.at (behind_kept y.world y'.world t.images.opens (checks m y t.at)) checks;
      marked = subst (AreMarkedUpto (max store.floor (x.committed + 1))) (sym marks) (marked_later (max x.store.floor (x.committed + 1)) (max store.floor (x.committed + 1)) x.store.marks (max_up x.store.floor store.floor (x.committed + 1) up) s.groups.marked);
    };
    objects = objects;
    seq = seq;
    floor = floor;
    uber = uber_stays pool new x (slice_set x.metaslabs m y') store marks t.uber s.uber;
    images = λ group k v may some. each_set x.metaslabs m y y' (HasImage group) t.at (image_kept group y y' t.images (s.images group m y may some t.at)) (λ n z. s.images group n z may some) k v;
    leaves = record {
      order = s.leaves.order;
      each = each_set x.metaslabs m y y' (λ z. LeavesAreBelow x.kept_leaf x.next_leaf z.world) t.at (leaves_kept x.kept_leaf x.next_leaf y.world y'.world t.images (s.leaves.each m y t.at)) s.leaves.each;
    };
    shared = s.shared;
    versions = s.versions;
    alike = each_set x.metaslabs m y y' (λ z. IsAlike s.shared z.world) t.at (alike_stays s.shared y.world y'.world t.images (s.alike m y t.at)) s.alike;
  }
    where
      each : (k : ℕ) (z : Shard R A) (v : Metaslab) → slice_get new.metaslabs.shards.items k ≡ Some z → slice_get (slice_set x.metaslabs m y') k ≡ Some v
          → IsMetaslab rack area (part_in x k) (turn m now s.pieces k) z v
      each k z v a b = elim (cases_eq k m) [
        | inl is ↦
            let here : shard' ≡ z = some_of (slice_get new.metaslabs.shards.items m) shard' z (ap (λ zs. slice_get zs m) t.sets ∙ get_set_same pool.metaslabs.shards.items m shard shard' t.there) (subst (λ j. slice_get new.metaslabs.shards.items j ≡ Some z) is a) in
            let at : y' ≡ v = some_of (slice_get (slice_set x.metaslabs m y') m) y' v (get_set_same x.metaslabs m y y' t.at) (subst (λ j. slice_get (slice_set x.metaslabs m y') j ≡ Some v) is b) in
            let moved : IsMetaslab rack area (part_in x m) (turn m now s.pieces m) shard' y' = subst (λ p. IsMetaslab rack area (part_in x m) p shard' y') (sym (turn_here m now s.pieces)) t.is in
            subst (λ j. IsMetaslab rack area (part_in x j) (turn m now s.pieces j) z v) (sym is)
            (subst (λ q. IsMetaslab rack area (part_in x m) (turn m now s.pieces m) q v) here (subst (λ q. IsMetaslab rack area (part_in x m) (turn m now s.pieces m) shard' q) at moved))
        | inr other ↦
            let differ : k ≡ m → ⊥ = (λ is. omega (arith, is, other)) in
            subst (λ p. IsMetaslab rack area (part_in x k) p z v) (sym (turn_other m k now s.pieces differ))
            (s.each k z v (sym (get_set_other pool.metaslabs.shards.items m k shard' differ) ∙ (sym (ap (λ zs. slice_get zs k) t.sets) ∙ a)) (sym (get_set_other x.metaslabs m k y' differ) ∙ b))
      ]

      checks : (k : ℕ) (v : Metaslab) → slice_get x.metaslabs k ≡ Some v → IsBehindChecks x.committed store.marks v.world.open_group
      checks k v at = subst (λ ms. IsBehindChecks x.committed ms v.world.open_group) (sym marks) (s.groups.checks k v at)

      behind_kept : (w v : machine.State) → w.open_group ≤ v.open_group → IsBehindChecks x.committed store.marks w.open_group → IsBehindChecks x.committed store.marks v.open_group
      behind_kept w v opens = behind_later x.committed x.committed w.open_group v.open_group store.marks (omega arith) opens

      committed : (k : ℕ) (v : Metaslab) → slice_get (slice_set x.metaslabs m y') k ≡ Some v → v.world.committed ≡ x.committed
      committed = each_set x.metaslabs m y y' (λ z. z.world.committed ≡ x.committed) t.at (t.committed ∙ s.groups.committed m y t.at) s.groups.committed

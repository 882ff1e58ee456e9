-- The shards of a pool stand for the metaslabs of a state, whatever is said of each metaslab's group, version and arms; and so they do as one of them moves.
use Rattle.std.proofs.Common.{◌≡◌, ◌<◌, ◌≤◌, ◌+◌, ◌⊎◌, ◌∙◌, inl, inr, ℕ, true, List, Option, Some, None, arith, refl, sym, ap, subst, slice_set, length}
use Rattle.std.specs.Prelude.{false, max, nat_eq, option_map, slice_get}
use Rattle.std.specs.HashMap.{get}
use Rattle.std.proofs.lemmas.Bool.{cases_eq}
use Rattle.std.proofs.lemmas.List.{length-set}
use Rattle.sha2.specs.Sha256.{sha256}
use Rattle.draid_names.specs.declared.numbers.TheConstants.{LAST_NUMBER}
use Rattle.draid_names.specs.declared.pointer.Pointer.{Pointer}
use Rattle.draid_rack.specs.declared.Rack as racks
use Rattle.draid_area.specs.declared.Area as areas
use Rattle.draid_map.specs.Place.{IsLayout}
use Rattle.draid_machine.specs.declared.names.Held.{Held}
use Rattle.draid_machine.specs.declared.names.Key.{Key}
use Rattle.draid_machine.specs.declared.names.Stage.TheVariants.{Live}
use Rattle.draid_machine.specs.After.{is_freed_block}
use Rattle.draid_machine.proofs.Small.{absurd_test, none_some}
use Rattle.draid_segments.specs.Segments.{Pieces}
use Rattle.draid_objects.specs.Blocks.{Drops, table_of}
use Rattle.draid_objects.specs.Changes.{Write, write_of}
use Rattle.draid_objects.proofs.Keeping.{commit_floor, commit_kept}
use Rattle.draid_entries.specs.Maps.{held_at, key_of, staged}
use Rattle.draid_shard.specs.Looks.{IsLive}
use Rattle.draid_shard.specs.Part.{Part}
use Rattle.draid_shard.specs.declared.shard.Shard.{Shard}
use Rattle.draid_session.specs.Opening.{MayFind}
use Rattle.draid_session.specs.State.{Metaslab, State}
use Rattle.draid_pool.specs.Importable.{HasPoolVersions, IsAlike, Shared, keep_shared}
use Rattle.draid_pool.specs.Metaslabs.{IsMetaslab}
use Rattle.draid_pool.specs.Objects.{HoldsObjects, IsLastAt, IsPointerOf, PointsTo, blocks_of}
use Rattle.draid_pool.specs.Pools.{Represents, part_in}
use Rattle.draid_pool.specs.Records.{HasImage, HasImages, HasLeafNumbers, LeavesAreBelow}
use Rattle.draid_pool.specs.Ubers.{IsUber}
use Rattle.draid_pool.specs.declared.pool.Pool.{Pool}
use Rattle.draid_pool.proofs.Lists.{get_set_other, get_set_same, some_of}
use Rattle.draid_pool.proofs.Lives.{held_by, live_by}
use Rattle.draid_pool.proofs.Marked.{behind_later}
use Rattle.draid_objects.specs.Marks.{check_by, is_dropped}
use Rattle.draid_objects.specs.Stores.{AreMarkedUpto, IsBehindChecks}
use Rattle.draid_pool.proofs.Moved.{blocks_at, each_set, with_metaslab}

-- a metaslab has committed this group, and has what all have in common
abbrev pub IsOneOf : ℕ → Shared → ℕ → Metaslab → Type 0
IsOneOf group shared m y = (y.world.committed ≡ group) × IsAlike shared y.world

-- so have those below a number, where what was of now is kept by then; the others have it as before
abbrev pub CommittedBelow : ℕ → Shared → ℕ → ℕ → Metaslab → Type 0
CommittedBelow group shared m k y = (k < m → IsOneOf group (keep_shared shared) k y) × (m ≤ k → IsAlike shared y.world)

module _ {R A : Type 0} (rack : racks.Ghosts R) (area : areas.Ghosts A) where
  -- this is said of the group of each metaslab, and of its version and arms
  pub record Stood (shards : List (Shard R A)) (table : ℕ → Option Pointer) (x : State) (says : ℕ → Metaslab → Type 0) : Type 0 where
    pub layout : IsLayout x.geometry x.perms
    pub many : length x.metaslabs ≡ x.geometry.props.metaslabs
    pub shards_are : length shards ≡ length x.metaslabs
    pub pieces : ℕ → Pieces
    pub each : (m : ℕ) (shard : Shard R A) (y : Metaslab) → slice_get shards m ≡ Some shard → slice_get x.metaslabs m ≡ Some y → IsMetaslab rack area (part_in x m) (pieces m) shard y
    pub holds : HoldsObjects x.geometry x.committed x.store (blocks_of x.metaslabs) pieces
    pub only : (m : ℕ) (k : Key) (h : Held) → blocks_of x.metaslabs m k ≡ Some h → h.stage ≡ Live → is_dropped (check_by x.store.marks) k ≡ false → IsLastAt m k (write_of x.store.changes k.object)
    pub checks : (m : ℕ) (y : Metaslab) → slice_get x.metaslabs m ≡ Some y → IsBehindChecks x.committed x.store.marks y.world.open_group
    pub marked : AreMarkedUpto (max x.store.floor (x.committed + 1)) x.store.marks
    pub objects : (object : ℕ) → PointsTo shards (table object) (write_of x.store.changes object)
    pub images : HasImages x
    pub leaves : HasLeafNumbers x
    pub said : (m : ℕ) (y : Metaslab) → slice_get x.metaslabs m ≡ Some y → says m y

  -- what a pool has besides
  pub record Rest (pool : Pool R A) (shared : Shared) (x : State) : Type 0 where
    pub geometry : x.geometry ≡ pool.geometry
    pub versions : HasPoolVersions x.kept_version x.next_version shared
    pub next : x.store.floor ≤ x.committed + 2
    pub last : x.store.floor ≤ LAST_NUMBER
    pub seq : x.store.seq ≡ pool.own.seq
    pub floor : x.store.floor ≡ pool.own.floor
    pub uber : IsUber area pool.uber x

  abbrev pub pointers_of : Pool R A → ℕ → Option Pointer
  pointers_of pool object = get nat_eq pool.own.objects object

  unfoldable pub stood_of : (pool : Pool R A) (x : State) → (r : Represents rack area pool x) → Stood pool.metaslabs.shards.items (pointers_of pool) x (IsOneOf x.committed r.stands.shared)
  stood_of pool x r = (let s = r.stands in record {
    layout = s.layout;
    many = s.many;
    shards_are = s.shards;
    pieces = s.pieces;
    each = s.each;
    holds = s.holds;
    only = r.only;
    checks = s.groups.checks;
    marked = s.groups.marked;
    objects = s.objects;
    images = s.images;
    leaves = s.leaves;
    said = λ m y at. (s.groups.committed m y at, s.alike m y at);
  })

  pub represents_of : (pool : Pool R A) (shared : Shared) (x : State) → Stood pool.metaslabs.shards.items (pointers_of pool) x (IsOneOf x.committed shared) → Rest pool shared x → Represents rack area pool x
  represents_of pool shared x s rest = record {
    stands = record {
      geometry = rest.geometry;
      layout = s.layout;
      many = s.many;
      shards = s.shards_are;
      pieces = s.pieces;
      each = s.each;
      holds = s.holds;
      groups = record { committed = λ m y at. (s.said m y at).0; next = rest.next; last = rest.last; checks = s.checks; marked = s.marked };
      objects = s.objects;
      seq = rest.seq;
      floor = rest.floor;
      uber = rest.uber;
      images = s.images;
      leaves = s.leaves;
      shared = shared;
      versions = rest.versions;
      alike = λ m y at. (s.said m y at).1;
    };
    only = s.only;
  }

  -- ---- one metaslab moves

  -- Nothing goes there but blocks that were freed up to the committed group.
  pub record Moves (m : ℕ) (shards : List (Shard R A)) (shard shard' : Shard R A) (x : State) (y y' : Metaslab) (pieces : Pieces) : Type 0 where
    pub there : slice_get shards m ≡ Some shard
    pub at : slice_get x.metaslabs m ≡ Some y
    pub is : IsMetaslab rack area (part_in x m) pieces shard' y'
    pub held : (key : Key) → (y'.world.core.held key ≡ y.world.core.held key) ⊎ ((is_freed_block x.committed (y.world.core.held key) ≡ true) × (y'.world.core.held key ≡ None))
    pub images : (group : ℕ) → MayFind x group → 0 < group → HasImage group y → HasImage group y'
    pub leaves : LeavesAreBelow x.kept_leaf x.next_leaf y.world → LeavesAreBelow x.kept_leaf x.next_leaf y'.world
    pub opens : y.world.open_group ≤ y'.world.open_group

  live_stays : (group : ℕ) (h : Held) (o n : Option Held) → o ≡ Some h → h.stage ≡ Live → (n ≡ o) ⊎ ((is_freed_block group o ≡ true) × (n ≡ None)) → n ≡ Some h
  live_stays group h o n there live (inl same) = same ∙ there
  live_stays group h o n there live (inr gone) = absurd_test (is_freed_block group o) gone.0 (ap (is_freed_block group) there ∙ ap (λ stage. is_freed_block group (Some (record h { stage = stage }))) live)

  module _ (m : ℕ) (shards : List (Shard R A)) (shard shard' : Shard R A) (table : ℕ → Option Pointer) (x : State) (y y' : Metaslab) (says says' : ℕ → Metaslab → Type 0)
      (s : Stood shards table x says) (v : Moves m shards shard shard' x y y' (s.pieces m)) where
    abbrev after : List Metaslab
    after = slice_set x.metaslabs m y'

    drops : Drops x.committed (blocks_of x.metaslabs) (blocks_of after)
    drops k key = elim (cases_eq k m) [
      | inl same ↦
          let was : blocks_of x.metaslabs k key ≡ y.world.core.held key = ap (λ j. blocks_of x.metaslabs j key) same ∙ blocks_at x.metaslabs m y key v.at in
          let is : blocks_of after k key ≡ y'.world.core.held key = ap (λ j. blocks_of after j key) same ∙ blocks_at after m y' key (get_set_same x.metaslabs m y y' v.at) in
          elim (v.held key) [
            | inl stays ↦ inl (is ∙ (stays ∙ sym was))
            | inr gone ↦ inr (ap (is_freed_block x.committed) was ∙ gone.0, is ∙ gone.1)
          ]
      | inr other ↦ inl (ap (λ (o : Option Metaslab). table_of (option_map (λ (z : Metaslab). z.world) o) key) (get_set_other x.metaslabs m k y' (λ same. omega (arith, same, other))))
    ]

    was : (k : ℕ) (key : Key) (h : Held) → blocks_of after k key ≡ Some h → blocks_of x.metaslabs k key ≡ Some h
    was k key h there = elim (drops k key) [
      | inl same ↦ sym same ∙ there
      | inr gone ↦ absurd (none_some (blocks_of after k key) h gone.1 there)
    ]

    holds : HoldsObjects x.geometry x.committed x.store (blocks_of after) s.pieces
    holds = record {
      stores = commit_kept sha256 x.committed x.store.changes x.store.marks (blocks_of x.metaslabs) (blocks_of after) s.holds.stores x.committed (omega arith) drops;
      floors = λ object. commit_floor x.store.changes (blocks_of x.metaslabs) (blocks_of after) x.committed object x.store.floor (s.holds.floors object) drops;
      settled = λ k key h there. s.holds.settled k key h (was k key h there);
      numbered = λ k key h there. s.holds.numbered k key h (was k key h there);
      positive = s.holds.positive;
      bytes = λ k key h write there by. s.holds.bytes k key h write (was k key h there) by;
    }

    each : (k : ℕ) (z : Shard R A) (u : Metaslab) → slice_get (slice_set shards m shard') k ≡ Some z → slice_get after k ≡ Some u → IsMetaslab rack area (part_in x k) (s.pieces k) z u
    each k z u a b = elim (cases_eq k m) [
      | inl same ↦
          let here : shard' ≡ z = some_of (slice_get (slice_set shards m shard') m) shard' z (get_set_same shards m shard shard' v.there) (subst (λ j. slice_get (slice_set shards m shard') j ≡ Some z) same a) in
          let at : y' ≡ u = some_of (slice_get after m) y' u (get_set_same x.metaslabs m y y' v.at) (subst (λ j. slice_get after j ≡ Some u) same b) in
          subst (λ j. IsMetaslab rack area (part_in x j) (s.pieces j) z u) (sym same)
          (subst (λ q. IsMetaslab rack area (part_in x m) (s.pieces m) q u) here (subst (IsMetaslab rack area (part_in x m) (s.pieces m) shard') at v.is))
      | inr other ↦
          let differ : k ≡ m → ⊥ = (λ same. omega (arith, same, other)) in
          s.each k z u (sym (get_set_other shards m k shard' differ) ∙ a) (sym (get_set_other x.metaslabs m k y' differ) ∙ b)
    ]

    pointer_stays : (p : Pointer) (w : Write) → IsPointerOf shards p w → IsPointerOf (slice_set shards m shard') p w
    pointer_stays p w of = elim (cases_eq p.metaslab m) [
      | inl same ↦
          let was_it : of.shard ≡ shard = some_of (slice_get shards m) of.shard shard (subst (λ k. slice_get shards k ≡ Some of.shard) same of.there) v.there in
          let before = s.each m shard y v.there v.at in
          let held = held_by shard y.world p before.stands.is_in (subst (λ z. IsLive z p) was_it of.live) in
          let stays = live_stays x.committed (held_at (staged Live p)) (y.world.core.held (key_of p)) (y'.world.core.held (key_of p)) held refl (v.held (key_of p)) in
          record {
            object_is = of.object_is;
            seq_is = of.seq_is;
            metaslab_is = of.metaslab_is;
            birth_is = of.birth_is;
            len_is = of.len_is;
            digest_is = of.digest_is;
            shard = shard';
            there = ap (λ k. slice_get (slice_set shards m shard') k) same ∙ get_set_same shards m shard shard' v.there;
            live = live_by rack shard' y'.world p v.is.valid v.is.stands.is_in stays (same ∙ sym (ap (λ (q : Part). q.number) v.is.part_is));
          }
      | inr other ↦
          record {
            object_is = of.object_is;
            seq_is = of.seq_is;
            metaslab_is = of.metaslab_is;
            birth_is = of.birth_is;
            len_is = of.len_is;
            digest_is = of.digest_is;
            shard = of.shard;
            there = get_set_other shards m p.metaslab shard' (λ same. omega (arith, same, other)) ∙ of.there;
            live = of.live;
          }
    ]

    points : (p : Option Pointer) (w : Option Write) → PointsTo shards p w → PointsTo (slice_set shards m shard') p w
    points None None is = tt
    points None (Some w) is = absurd is
    points (Some p) None is = absurd is
    points (Some p) (Some w) is = pointer_stays p w is

    pub stood_moved : ((k : ℕ) (u : Metaslab) → slice_get after k ≡ Some u → says' k u) → Stood (slice_set shards m shard') table (with_metaslab x m y') says'
    stood_moved own = record {
      layout = s.layout;
      many = length-set x.metaslabs m y' ∙ s.many;
      shards_are = length-set shards m shard' ∙ (s.shards_are ∙ sym (length-set x.metaslabs m y'));
      pieces = s.pieces;
      each = each;
      holds = holds;
      only = λ k key h there live counts. s.only k key h (was k key h there) live counts;
      checks = each_set x.metaslabs m y y' (λ z. IsBehindChecks x.committed x.store.marks z.world.open_group) v.at (behind_later x.committed x.committed y.world.open_group y'.world.open_group x.store.marks (omega arith) v.opens (s.checks m y v.at)) s.checks;
      marked = s.marked;
      objects = λ object. points (table object) (write_of x.store.changes object) (s.objects object);
      images = λ group k u may some. each_set x.metaslabs m y y' (HasImage group) v.at (v.images group may some (s.images group m y may some v.at)) (λ n z. s.images group n z may some) k u;
      leaves = record {
        order = s.leaves.order;
        each = each_set x.metaslabs m y y' (λ z. LeavesAreBelow x.kept_leaf x.next_leaf z.world) v.at (v.leaves (s.leaves.each m y v.at)) s.leaves.each;
      };
      said = own;
    }

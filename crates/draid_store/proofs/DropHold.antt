-- What a pool stands for as a block is dropped to the checkpoint.
use Rattle.std.proofs.Common.{◌≡◌, ◌<◌, ◌≤◌, ◌+◌, ◌⊎◌, ◌∷◌, ◌∙◌, [], inl, inr, ℕ, Bool, true, false, List, Option, Some, None, Ok, arith, ap, refl, sym, subst, cond, if◌then◌else◌, ne_eqb}
use mathlib.Core.Logic.{dite}
use native.Mathlib.Decide.{ℕ_discrete}
use Rattle.std.specs.Prelude.{All, max, nat_eq, slice_get}
use Rattle.std.specs.HashMap.{get}
use Rattle.std.proofs.lemmas.Bool.Decides.{nat_tests}
use Rattle.std.proofs.lemmas.Bool.{true≢false}
use Rattle.std.proofs.lemmas.List.Elements.{All-cons}
use Rattle.sha2.specs.Sha256.{sha256}
use Rattle.draid_area.specs.declared.Area as areas
use Rattle.draid_checkpoint.specs.Check.{holds_birth}
use Rattle.draid_machine.proofs.Small.{equal, key_refl}
use Rattle.draid_machine.specs.Images.{IsImage}
use Rattle.draid_machine.specs.Names.{key_eq}
use Rattle.draid_machine.specs.Sound.{GroupsSound}
use Rattle.draid_machine.specs.State as machine
use Rattle.draid_machine.specs.declared.names.Held.{Held}
use Rattle.draid_machine.specs.declared.names.Key.{Key}
use Rattle.draid_machine.specs.declared.names.Stage.TheVariants.{Live}
use Rattle.draid_names.specs.declared.pointer.Pointer.{Pointer}
use Rattle.draid_rack.specs.declared.Rack as racks
use Rattle.draid_entries.specs.Maps.{held_at, key_of, staged}
use Rattle.draid_objects.proofs.Finding.{changes_it, other_changes}
use Rattle.draid_objects.proofs.Keeping.{floor_up}
use Rattle.draid_objects.proofs.Marking.{object_dropped, older_dropped, upto_all}
use Rattle.draid_objects.specs.Changes as changes
use Rattle.draid_objects.specs.Changes.{Freed, Write, group_of, object_of, write_of}
use Rattle.draid_objects.specs.Marks.{Check, Dropped, check_by, is_dropped, mark_group}
use Rattle.draid_objects.specs.Stores.{AreMarkedUpto, IsFloor, IsOnlyLive, Stores}
use Rattle.draid_shard.specs.Looks.{IsLive}
use Rattle.draid_shard.specs.Part.{layout_in}
use Rattle.draid_shard.specs.declared.shard.Shard.{Shard}
use Rattle.draid_session.specs.Follows.{Follows}
use Rattle.draid_session.specs.Holds.{Hold, Looked, On, view_of}
use Rattle.draid_session.specs.Points.{IsPointOf, KeepsBirth}
use Rattle.draid_session.specs.State.{Metaslab, State, Store}
use Rattle.draid_session.specs.Writes.{DropsBlock}
use Rattle.draid_uber.specs.Uber.{point_of}
use Rattle.draid_uber.specs.declared.uber.Uber.{Uber}
use Rattle.draid_pool.specs.Carries.{CarriesOut}
use Rattle.draid_pool.specs.Metaslabs.{IsMetaslab}
use Rattle.draid_pool.specs.Objects.{HoldsObjects, IsLastAt, IsPointerOf, PointsTo, blocks_of}
use Rattle.draid_pool.specs.Pools.{Stands, part_in}
use Rattle.draid_pool.specs.Records.{HasImage}
use Rattle.draid_pool.specs.Whole.{IsWhole}
use Rattle.draid_pool.specs.declared.own.Own.{Own}
use Rattle.draid_pool.specs.declared.pool.Pool.{Pool}
use Rattle.draid_pool.proofs.Entering.{only_live}
use Rattle.draid_pool.proofs.Finds.{looks}
use Rattle.draid_pool.proofs.Lifted.{metaslab_of}
use Rattle.draid_pool.proofs.Lists.{set_back, some_of}
use Rattle.draid_pool.proofs.Lives.{held_by}
use Rattle.draid_pool.proofs.Marked.{marked_later}
use Rattle.draid_pool.proofs.Moved.{blocks_at, follows_one}
use Rattle.draid_pool.proofs.Points.{point_stands}
use Rattle.draid_pool.proofs.Turns.{state_sound}
use Rattle.draid_pool.proofs.Wholes.{open_high, put_elsewhere, put_here}
use Rattle.draid_store.specs.Answers.{FreeDoes}
use Rattle.draid_store.specs.Freeing.{DropsEarlier, HasLoose, KeptIs}
use Rattle.draid_store.proofs.DropWhole.{DropsAt, group_behind, group_high, group_low, held_group}
use Rattle.draid_store.proofs.Dropped.{DropsUber, groups_drop, last_counts, uber_drops, undropped}
use Rattle.draid_store.proofs.FreeKeeps.{same_key}
use Rattle.draid_store.proofs.Points.{point_loose}

unlike : (key k : Key) → key_eq key k ≡ false → k ≡ key → ⊥
unlike key k other same = true≢false (sym (subst (λ j. key_eq key j ≡ true) (sym same) (key_refl key)) ∙ other)

module _ {R A : Type 0} (rack : racks.Ghosts R) (area : areas.Ghosts A) (pool : Pool R A) (uber : Uber A) (own : Own) (p : Pointer) (group : ℕ) (w : IsWhole rack area pool) (d : DropsAt area pool uber own p group)
    (x : State) (s : Stands rack area pool (λ object. get nat_eq pool.own.objects object) x) (we : Write) (had : IsPointerOf pool.metaslabs.shards.items p we) (kept : KeepsBirth x.store.marks we.birth) (held : holds_birth (point_of pool.uber).group p.birth ≡ true) where
  abbrev check : Check
  check = kept.0

  abbrev blocks : ℕ → Key → Option Held
  blocks = blocks_of x.metaslabs

  -- ---- where it lies

  abbrev y : Metaslab
  y = (metaslab_of rack area pool x s p.metaslab d.shard d.there).y

  at : slice_get x.metaslabs p.metaslab ≡ Some y
  at = (metaslab_of rack area pool x s p.metaslab d.shard d.there).at

  is : IsMetaslab rack area (part_in x p.metaslab) (s.pieces p.metaslab) d.shard y
  is = (metaslab_of rack area pool x s p.metaslab d.shard d.there).is

  group_is : group ≡ max y.world.open_group x.store.floor
  group_is = d.group_is ∙ (λ i. max (sym is.stands.is_in.open_group_is i) (sym s.floor i))

  key_is : key_of p ≡ changes.key_of we
  key_is = same_key p we had.object_is had.seq_is

  abbrev h : Held
  h = held_at (staged Live p)

  found : blocks we.metaslab (changes.key_of we) ≡ Some h
  found =
      let same : had.shard ≡ d.shard = some_of (slice_get pool.metaslabs.shards.items p.metaslab) had.shard d.shard had.there d.there in
      subst (λ (z : ℕ × Key). blocks z.0 z.1 ≡ Some h) (λ i. (had.metaslab_is i, key_is i))
      (blocks_at x.metaslabs p.metaslab y (key_of p) at ∙ held_by d.shard y.world p is.stands.is_in (subst (λ (z : Shard R A). IsLive z p) same had.live))

  early : h.birth ≤ check.group
  early = (let low = kept.2 in let same = had.birth_is in omega (arith, low, same))

  -- ---- its group

  open_behind : x.committed + 1 ≤ y.world.open_group
  open_behind =
      let high = open_high d.shard.open_group d.shard.closing d.shard.committed d.shard.sealed is.valid.groups in
      let open_is = is.stands.is_in.open_group_is in
      let committed_is = is.stands.is_in.committed in
      let same = s.groups.committed p.metaslab y at in
      omega (arith, high, open_is, committed_is, same)

  after : x.committed < group
  after = (let late = open_behind in let of = group_is in grind (arith, nat_tests, late, of))

  upto_high : max x.store.floor (x.committed + 1) ≤ group
  upto_high = (let late = open_behind in let of = group_is in grind (arith, nat_tests, late, of))

  next : group ≤ x.committed + 2
  next =
      let high = group_high rack area pool uber own p group w d in
      let group_at = (w.shards p.metaslab d.shard d.there).committed in
      let committed_is = is.stands.is_in.committed in
      let same = s.groups.committed p.metaslab y at in
      omega (arith, high, group_at, committed_is, same)

  upto : AreMarkedUpto group x.store.marks
  upto = marked_later (max x.store.floor (x.committed + 1)) group x.store.marks upto_high s.groups.marked

  -- a group of which a commit was refused is closed
  closed : x.pending ≡ true → x.committed + 1 < group
  closed pending = by image.is
    where
      image : HasImage (x.committed + 1) y
      image = s.images (x.committed + 1) p.metaslab y (inr (pending, refl)) (omega arith) at

      sound : GroupsSound y.world.open_group y.world.committed y.world.closing y.world.image y.world.sealed y.world.core.held
      sound = (state_sound rack area (part_in x p.metaslab) (s.pieces p.metaslab) d.shard y is).groups

      by : IsImage y.world image.image → x.committed + 1 < group
      by (inl first) =
          let of : y.world.image.group ≡ image.image.group = ap (λ (i : machine.Image). i.group) first in
          let named = sound.image_is in
          let same = s.groups.committed p.metaslab y at in
          let late = image.of in
          absurd (omega (arith, of, named, same, late))
      by (inr sealed) =
          let closing = sound.closing_is image.image.group (sound.sealed_is image.image sealed) in
          let late = image.of in
          let opens = closing.1 in
          let of = group_is in
          grind (arith, nat_tests, late, opens, of)

  behind : check.group < group
  behind =
      let same = upto_all (group + x.committed) group x.store.marks upto (omega arith) in
      let low = s.groups.checks p.metaslab y at (group + x.committed) check (omega arith) (same ∙ kept.1) in
      let of = group_is in
      grind (arith, nat_tests, low, of)

  some_group : All (λ m. 1 ≤ mark_group m) (Dropped (changes.key_of we) group ∷ x.store.marks)
  some_group = All-cons (λ m. 1 ≤ mark_group m) (Dropped (changes.key_of we) group) x.store.marks (let late = after in omega (arith, late)) s.holds.positive

  -- ---- what the pool stands for

  module _ (table : ℕ → Option Pointer) (store : Store) (marks : store.marks ≡ Dropped (changes.key_of we) group ∷ x.store.marks) (floor : store.floor ≡ group) (seq : store.seq ≡ x.store.seq)
      (holds : HoldsObjects x.geometry x.committed store (blocks_of x.metaslabs) s.pieces) (objects : (object : ℕ) → PointsTo pool.metaslabs.shards.items (table object) (write_of store.changes object)) where
    stands_dropped : Stands rack area (record pool { uber = uber; own = own }) table (record x { store = store })
    stands_dropped = record {
      geometry = s.geometry;
      layout = s.layout;
      many = s.many;
      shards = s.shards;
      pieces = s.pieces;
      each = s.each;
      holds = holds;
      groups = groups_drop x store (changes.key_of we) group marks floor upto_high next (group_low rack area pool uber own p group w d) s.groups;
      objects = objects;
      seq = seq ∙ (s.seq ∙ sym d.seq);
      floor = floor ∙ sym d.floor;
      uber = uber_drops area pool.uber uber x store (changes.key_of we) group has.0 s.uber (subst (λ k. DropsUber area pool.uber uber k group) key_is d.uber_is) has.1 (group_behind rack area pool uber own p group w d has.0 has.1) after closed upto marks;
      images = s.images;
      leaves = record { order = s.leaves.order; each = s.leaves.each };
      shared = s.shared;
      versions = s.versions;
      alike = s.alike;
    }
      where
        has : (n : ℕ) × ((point_of pool.uber).group ≡ Some n) × (p.birth ≤ n)
        has = held_group (point_of pool.uber).group p.birth held

  -- ---- the hold

  abbrev look : List Hold
  look = On (view_of p.metaslab y) Looked ∷ []

  follows : Follows look x x
  follows = subst (Follows look x) (ap (λ zs. record x { metaslabs = zs }) (set_back x.metaslabs p.metaslab y at))
      (follows_one p.metaslab look x y y at (Looked, y, refl, looks (layout_in (part_in x p.metaslab)) y, refl))

  drops : DropsBlock we x.store.floor group look
  drops = record { v = view_of p.metaslab y; looked = refl; there = had.metaslab_is; group_is = group_is }

  -- ---- an earlier block

  module _ (counts : is_dropped (check_by x.store.marks) (changes.key_of we) ≡ false) (newer : Write) (is_last : write_of x.store.changes we.object ≡ Some newer) (later : we.seq < newer.seq) where
    abbrev store_earlier : Store
    store_earlier = record x.store { marks = Dropped (changes.key_of we) group ∷ x.store.marks; floor = group }

    up : x.store.floor ≤ group
    up = (let high = upto_high in grind (arith, nat_tests, high))

    holds_earlier : HoldsObjects x.geometry x.committed store_earlier (blocks_of x.metaslabs) s.pieces
    holds_earlier = record {
      stores = older_dropped sha256 x.committed we.metaslab group x.store.changes x.store.marks (blocks_of x.metaslabs) (changes.key_of we) h newer check s.holds.stores kept.1 early is_last
          (λ same. (let seqs = ap (λ (k : Key). k.seq) same in omega (arith, seqs, later))) found refl (ap (λ o. is_dropped o (changes.key_of we)) (sym kept.1) ∙ counts)
          (floor_up x.store.changes (blocks_of x.metaslabs) we.object x.store.floor group (s.holds.floors we.object) up) upto behind;
      floors = λ o. floor_up x.store.changes (blocks_of x.metaslabs) o x.store.floor group (s.holds.floors o) up;
      settled = s.holds.settled;
      numbered = s.holds.numbered;
      positive = some_group;
      bytes = s.holds.bytes;
    }

    module _ (only : (m : ℕ) (k : Key) (i : Held) → blocks m k ≡ Some i → i.stage ≡ Live → is_dropped (check_by x.store.marks) k ≡ false → ((m ≡ p.metaslab) × (k ≡ changes.key_of we)) ⊎ IsLastAt m k (write_of x.store.changes k.object)) where
      only_earlier : (m : ℕ) (k : Key) (i : Held) → blocks m k ≡ Some i → i.stage ≡ Live → is_dropped (check_by store_earlier.marks) k ≡ false → IsLastAt m k (write_of x.store.changes k.object)
      only_earlier m k i there live counts_k =
          let z = undropped (changes.key_of we) k (check_by x.store.marks) check kept.1 counts_k in
          elim (only m k i there live z.1) [
            | inl it ↦ absurd (unlike (changes.key_of we) k z.0 it.1)
            | inr last ↦ last
          ]

      pub carries_earlier : ((object : ℕ) → get nat_eq own.objects object ≡ get nat_eq pool.own.objects object) → CarriesOut rack area (record pool { uber = uber; own = own }) x (DropsEarlier x we x.store.floor)
      carries_earlier same = record {
        holds = look;
        reached = x;
        store = store_earlier;
        follows = follows;
        done = record { group = group; drops = drops; made = refl };
        represents = record {
          stands = stands_dropped (λ object. get nat_eq own.objects object) store_earlier refl refl refl holds_earlier
              (λ object. subst (λ o. PointsTo pool.metaslabs.shards.items o (write_of x.store.changes object)) (sym (same object)) (s.objects object));
          only = only_earlier;
        };
      }

  -- ---- the block of an object that is freed

  module _ (object : ℕ) (named : we.object ≡ object) (is_last : write_of x.store.changes object ≡ Some we)
      (only : (m : ℕ) (k : Key) (i : Held) → blocks m k ≡ Some i → i.stage ≡ Live → is_dropped (check_by x.store.marks) k ≡ false → IsLastAt m k (write_of x.store.changes k.object)) where
    abbrev store_freed : Store
    store_freed = record x.store { changes = Freed object group ∷ x.store.changes; marks = Dropped (changes.key_of we) group ∷ x.store.marks; floor = group }

    last : write_of x.store.changes we.object ≡ Some we
    last = ap (write_of x.store.changes) named ∙ is_last

    raised : x.store.floor ≤ group
    raised = (let high = upto_high in grind (arith, nat_tests, high))

    one : IsOnlyLive (check_by x.store.marks) (blocks_of x.metaslabs) we.metaslab (changes.key_of we)
    one = only_live (check_by x.store.marks) (blocks_of x.metaslabs) x.store.changes we (changes.key_of we) only last refl

    -- what was its object's last isn't dropped
    isnt : is_dropped (check_by x.store.marks) (changes.key_of we) ≡ false
    isnt = last_counts sha256 x.committed group we.object x.store.changes x.store.marks (blocks_of x.metaslabs) we s.holds.stores upto last

    freed_floor : (o : ℕ) → IsFloor (Freed object group ∷ x.store.changes) (blocks_of x.metaslabs) o group
    freed_floor o =
        let was = floor_up x.store.changes (blocks_of x.metaslabs) o x.store.floor group (s.holds.floors o) raised in
        record { changed = All-cons (λ c. object_of c ≡ o → group_of c ≤ group) (Freed object group) x.store.changes (λ same. omega arith) was.changed; freed = was.freed }

    holds_freed : HoldsObjects x.geometry x.committed store_freed (blocks_of x.metaslabs) s.pieces
    holds_freed = record {
      stores = subst (λ o. Stores sha256 x.committed (Freed o group ∷ x.store.changes) (Dropped (changes.key_of we) group ∷ x.store.marks) (blocks_of x.metaslabs)) named
          (object_dropped sha256 x.committed we.metaslab group x.store.changes x.store.marks (blocks_of x.metaslabs) (changes.key_of we) h check s.holds.stores kept.1 early found refl (ap (λ o. is_dropped o (changes.key_of we)) (sym kept.1) ∙ isnt) one
          (floor_up x.store.changes (blocks_of x.metaslabs) we.object x.store.floor group (s.holds.floors we.object) raised) upto behind);
      floors = freed_floor;
      settled = s.holds.settled;
      numbered = s.holds.numbered;
      positive = some_group;
      bytes = s.holds.bytes;
    }

    only_freed : (m : ℕ) (k : Key) (i : Held) → blocks m k ≡ Some i → i.stage ≡ Live → is_dropped (check_by store_freed.marks) k ≡ false → IsLastAt m k (write_of store_freed.changes k.object)
    only_freed m k i there live counts =
        let z = undropped (changes.key_of we) k (check_by x.store.marks) check kept.1 counts in
        subst (IsLastAt m k) (sym (other_changes (Freed object group) x.store.changes k.object (ne_eqb object k.object (λ same. unlike (changes.key_of we) k z.0 (one m k i there live z.1 (sym same ∙ sym named)).1))))
        (only m k i there live z.1)

    points_freed : (table : ℕ → Option Pointer) → ((q : ℕ) → table q ≡ cond (nat_eq object q) None (get nat_eq pool.own.objects q)) → (q : ℕ) → PointsTo pool.metaslabs.shards.items (table q) (write_of store_freed.changes q)
    points_freed table removed q = dite (ℕ_discrete object q)
        (λ same.
        let t : table q ≡ None = put_here (table q) (get nat_eq pool.own.objects q) object q None (removed q) same in
        let v : write_of store_freed.changes q ≡ None = changes_it (Freed object group) x.store.changes q (equal object q same) in
        subst (λ o. PointsTo pool.metaslabs.shards.items o (write_of store_freed.changes q)) (sym t) (subst (λ o. PointsTo pool.metaslabs.shards.items None o) (sym v) tt))
        (λ differ.
        let t : table q ≡ get nat_eq pool.own.objects q = put_elsewhere (table q) (get nat_eq pool.own.objects q) object q None (removed q) differ in
        let v : write_of store_freed.changes q ≡ write_of x.store.changes q = other_changes (Freed object group) x.store.changes q (ne_eqb object q differ) in
        subst (λ o. PointsTo pool.metaslabs.shards.items o (write_of store_freed.changes q)) (sym t) (subst (λ o. PointsTo pool.metaslabs.shards.items (get nat_eq pool.own.objects q) o) (sym v) (s.objects q)))

    pub carries_freed : ((q : ℕ) → get nat_eq own.objects q ≡ cond (nat_eq object q) None (get nat_eq pool.own.objects q)) → CarriesOut rack area (record pool { uber = uber; own = own }) x (FreeDoes x object (Ok tt))
    carries_freed removed = record {
      holds = look;
      reached = x;
      store = store_freed;
      follows = follows;
      done = record { w = we; group = group; written = is_last; marks = store_freed.marks; leaves = inr (kept, drops, refl); made = refl };
      represents = record {
        stands = stands_dropped (λ q. get nat_eq own.objects q) store_freed refl refl refl holds_freed (points_freed (λ q. get nat_eq own.objects q) removed);
        only = only_freed;
      };
    }

-- ---- from the table

-- the write of a pointer of the table
pub pointed_in : {R : Type 0} {A : Type 0} (shards : List (Shard R A)) (o : Option Pointer) (v : Option Write) (p : Pointer) → o ≡ Some p → PointsTo shards o v → (we : Write) × (v ≡ Some we) × IsPointerOf shards p we
pointed_in shards None v p is points = absurd (cc)
pointed_in shards (Some q) None p is points = absurd points
pointed_in shards (Some q) (Some we) p is points = (let same : q ≡ p = some_of (Some q) q p refl is in (we, refl, subst (λ (t : Pointer). IsPointerOf shards t we) same points))

-- which block isn't to be dropped
pub kept_some : (point : Option ℕ) (found : Option Pointer) (result : Option Pointer) (p : Pointer) → KeptIs point found result → result ≡ Some p → (found ≡ Some p) × (holds_birth point p.birth ≡ true)
kept_some point None result p is some = absurd (let both = sym is ∙ some in cc)
kept_some point (Some q) result p is some = by (holds_birth point q.birth) refl (sym is ∙ some)
  where
    by : (b : Bool) → holds_birth point q.birth ≡ b → (if b then Some q else None) ≡ Some p → (Some q ≡ Some p) × (holds_birth point p.birth ≡ true)
    by true held same = (same, subst (λ (t : Pointer). holds_birth point t.birth ≡ true) (some_of (Some q) q p refl same) held)
    by false held same = absurd (cc)

kept_none : (point : Option ℕ) (found : Option Pointer) (result : Option Pointer) (p : Pointer) → KeptIs point found result → result ≡ None → found ≡ Some p → holds_birth point p.birth ≡ false
kept_none point None result p is none some = absurd (cc)
kept_none point (Some q) result p is none some = by (holds_birth point q.birth) refl (sym is ∙ none)
  where
    by : (b : Bool) → holds_birth point q.birth ≡ b → (if b then Some q else None) ≡ None → holds_birth point p.birth ≡ false
    by true held same = absurd (cc)
    by false held same = subst (λ (t : Pointer). holds_birth point t.birth ≡ false) (some_of (Some q) q p refl some) held

module _ {R A : Type 0} (rack : racks.Ghosts R) (area : areas.Ghosts A) (pool : Pool R A) (x : State) (s : Stands rack area pool (λ object. get nat_eq pool.own.objects object) x) where
  pub is_point : IsPointOf x.store.marks (point_of pool.uber).group
  is_point = point_stands area pool.uber x (blocks_of x.metaslabs) s.pieces s.uber s.holds s.groups

  -- the block of an object is to be freed, where it isn't to be dropped
  pub is_loose : (object : ℕ) (result : Option Pointer) → KeptIs (point_of pool.uber).group (get nat_eq pool.own.objects object) result → result ≡ None → HasLoose x.store object
  is_loose object result is none we we_is kept = by (get nat_eq pool.own.objects object) refl (s.objects object)
    where
      by : (o : Option Pointer) → get nat_eq pool.own.objects object ≡ o → PointsTo pool.metaslabs.shards.items o (write_of x.store.changes object) → ⊥
      by None at points = subst (PointsTo pool.metaslabs.shards.items None) we_is points
      by (Some p) at points =
          let of : IsPointerOf pool.metaslabs.shards.items p we = subst (PointsTo pool.metaslabs.shards.items (Some p)) we_is points in
          point_loose x.store.marks (point_of pool.uber).group p.birth is_point (kept_none (point_of pool.uber).group (get nat_eq pool.own.objects object) result p is none at) (subst (KeepsBirth x.store.marks) (sym of.birth_is) kept)

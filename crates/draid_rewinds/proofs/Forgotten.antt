-- For which state a pool stands whose checkpoint was given up, with the live blocks to which its table doesn't lead.
use Rattle.std.proofs.Common.{arith, ◌≡◌, ◌+◌, ◌≤◌, ◌∙◌, inl, inr, ℕ, Bool, true, false, ◌∷◌, Option, Some, None, All, refl, sym, ap, subst, max}
use Rattle.std.specs.Prelude.{nat_eq}
use Rattle.std.specs.HashMap.{get}
use Rattle.std.proofs.lemmas.List.Elements.{All-cons}
use Rattle.std.proofs.lemmas.Option.{slice_get_within}
use Rattle.sha2.specs.Sha256.{sha256}
use Rattle.draid_names.specs.declared.numbers.TheConstants.{LAST_NUMBER}
use Rattle.draid_names.specs.declared.pointer.Pointer.{Pointer}
use Rattle.draid_rack.specs.declared.Rack as racks
use Rattle.draid_area.specs.declared.Area as areas
use Rattle.draid_machine.specs.declared.names.Held.{Held}
use Rattle.draid_machine.specs.declared.names.Key.{Key}
use Rattle.draid_machine.specs.declared.names.Stage.TheVariants.{Freed, Live}
use Rattle.draid_machine.specs.Names.{is_block}
use Rattle.draid_objects.specs.Blocks.{Blocks}
use Rattle.draid_objects.specs.Changes.{Write, group_of, object_of, write_by, write_of}
use Rattle.draid_objects.specs.Marks.{GivenUp, mark_group}
use Rattle.draid_objects.specs.Rewinds.{FreesThose, freed_in}
use Rattle.draid_objects.specs.Stores.{AreMarkedUpto, IsBehindChecks, Stores}
use Rattle.draid_entries.specs.Maps.{held_at, key_of, staged}
use Rattle.draid_shard.specs.Part.{Part}
use Rattle.draid_session.specs.State.{State, Store}
use Rattle.draid_pool.specs.Objects.{HoldsObjects, IsLastAt, IsPointerOf, PointsTo, blocks_of}
use Rattle.draid_pool.specs.Pools.{Represents}
use Rattle.draid_pool.specs.declared.pool.Pool.{Pool}
use Rattle.draid_pool.proofs.Imaged.{alike_stays, image_kept, leaves_kept}
use Rattle.draid_pool.proofs.Lists.{present, some_of}
use Rattle.draid_pool.proofs.Lives.{held_by, live_by}
use Rattle.draid_pool.proofs.Marked.{marked_later}
use Rattle.draid_pool.proofs.Moved.{blocks_at}
use Rattle.draid_pool.proofs.Stood.{IsOneOf, Rest, Stood, represents_of}
use Rattle.draid_rewinds.specs.Giving.{ForgetsPoint}
use Rattle.draid_rewinds.specs.Sweeps.{FreesOthers}
use Rattle.draid_rewinds.proofs.Marking.{given_behind, given_told, uber_marked}
use Rattle.draid_rewinds.proofs.Swept.{IsTestOf, StandsAll, Swept, SweptAll, metaslab_at, swept_whole}

module _ {R A : Type 0} (rack : racks.Ghosts R) (area : areas.Ghosts A) where
  -- the shards of a pool stand for the metaslabs of its state
  pub stands_all : (pool : Pool R A) (x : State) (r : Represents rack area pool x) → StandsAll rack area x r.stands.pieces pool.metaslabs.shards.items x.metaslabs
  stands_all pool x r = record { shards_are = r.stands.shards; each = r.stands.each }

  -- What a table and what befell the objects have to be for that: the table leads to what is live then, as the objects have it.
  pub record MayForget (old : Pool R A) (x : State) (table : ℕ → Option Pointer) (test : Key → Held → Bool) (store : Store) : Type 0 where
    pub told : IsTestOf test table (blocks_of x.metaslabs)
    pub marks : store.marks ≡ GivenUp (x.committed + 1) ∷ x.store.marks
    pub seq : store.seq ≡ x.store.seq
    pub floor : store.floor ≡ max (x.committed + 1) x.store.floor
    pub stores : (new : Blocks) → FreesThose test (x.committed + 1) (blocks_of x.metaslabs) new → Stores sha256 x.committed store.changes store.marks new
    pub writes : (k : Key) → write_by store.changes k ≡ write_by x.store.changes k
    pub changed : (object : ℕ) → All (λ c. object_of c ≡ object → group_of c ≤ x.committed + 1) store.changes
    pub only : (m : ℕ) (k : Key) (h : Held) → blocks_of x.metaslabs m k ≡ Some h → h.stage ≡ Live → test k h ≡ false → IsLastAt m k (write_of store.changes k.object)
    pub objects : (object : ℕ) → PointsTo old.metaslabs.shards.items (table object) (write_of store.changes object)

  module _ (old new : Pool R A) (x : State) (r : Represents rack area old x) (settled : x.pending ≡ false) (floor_low : x.store.floor ≤ x.committed + 1) (last : x.committed + 1 ≤ LAST_NUMBER) (table : ℕ → Option Pointer) (test : Key → Held → Bool)
      (store : Store) (may : MayForget old x table test store) (many : ℕ) (f : FreesOthers rack area table (x.committed + 1) old.metaslabs.shards.items many new.metaslabs.shards.items) (uber : ForgetsPoint area (x.committed + 1) old.uber new.uber)
      (geometry : new.geometry ≡ old.geometry) (objects_are : (object : ℕ) → get nat_eq new.own.objects object ≡ table object) (seq : new.own.seq ≡ old.own.seq) (floor : new.own.floor ≡ max old.own.floor (x.committed + 1)) where
    abbrev group : ℕ
    group = x.committed + 1

    abbrev swept : SweptAll rack area table group test x r.stands.pieces new.metaslabs.shards.items many
    swept = swept_whole rack area table group test x r.stands.pieces may.told old.metaslabs.shards.items new.metaslabs.shards.items many (stands_all old x r) f

    abbrev s : Swept rack area table group test x r.stands.pieces new.metaslabs.shards.items many
    s = swept.swept

    abbrev reached : State
    reached = record x { metaslabs = s.metaslabs; store = store }

    floor_is : store.floor ≡ group
    floor_is = (let is = may.floor in omega (arith, is, floor_low))

    upto : AreMarkedUpto group x.store.marks
    upto = marked_later (max x.store.floor (x.committed + 1)) group x.store.marks (omega (arith, floor_low)) r.stands.groups.marked

    -- ---- blocks

    -- a block was there, live or freed
    was : (m : ℕ) (k : Key) (h : Held) → blocks_of s.metaslabs m k ≡ Some h → (z : Held) × (blocks_of x.metaslabs m k ≡ Some z) × (is_block h.stage ≡ true)
    was m k h there = elim (s.blocks m k) [
      | inl same ↦ (h, sym same ∙ there, r.stands.holds.settled m k h (sym same ∙ there))
      | inr freed ↦ (freed.h, freed.was, ap (λ (z : Held). is_block z.stage) (some_of (blocks_of s.metaslabs m k) h (freed_in group freed.h) there freed.is))
    ]

    freed_low : (m : ℕ) (k : Key) (h : Held) (g : ℕ) → blocks_of s.metaslabs m k ≡ Some h → h.stage ≡ Freed g → g ≤ store.floor
    freed_low m k h g there stage = elim (s.blocks m k) [
      | inl same ↦ (let low = (r.stands.holds.floors k.object).freed m k h g (sym same ∙ there) refl stage in omega (arith, low, floor_is, floor_low))
      | inr freed ↦
          let is : Freed group ≡ Freed g = ap (λ (z : Held). z.stage) (some_of (blocks_of s.metaslabs m k) (freed_in group freed.h) h freed.is there) ∙ stage in
          let at : group ≡ g = cc in
          omega (arith, at, floor_is)
    ]

    -- what is live was, and didn't pass
    live_was : (m : ℕ) (k : Key) (h : Held) → blocks_of s.metaslabs m k ≡ Some h → h.stage ≡ Live → (blocks_of x.metaslabs m k ≡ Some h) × (test k h ≡ false)
    live_was m k h there live = elim (swept.those m k) [
      | inl freed ↦
          let is : Freed group ≡ Live = ap (λ (z : Held). z.stage) (some_of (blocks_of s.metaslabs m k) (freed_in group freed.0) h freed.4 there) ∙ live in
          absurd (cc)
      | inr stays ↦ (sym stays.0 ∙ there, stays.1 h (sym stays.0 ∙ there) live)
    ]

    -- and what didn't pass is
    live_stays : (m : ℕ) (k : Key) (h : Held) → blocks_of x.metaslabs m k ≡ Some h → test k h ≡ false → blocks_of s.metaslabs m k ≡ Some h
    live_stays m k h there not = elim (swept.those m k) [
      | inl freed ↦
          let same : freed.0 ≡ h = some_of (blocks_of x.metaslabs m k) freed.0 h freed.1 there in
          let both : true ≡ false = sym freed.3 ∙ (ap (test k) same ∙ not) in
          absurd (cc)
      | inr stays ↦ stays.0 ∙ there
    ]

    holds : HoldsObjects x.geometry x.committed store (blocks_of s.metaslabs) r.stands.pieces
    holds = record {
      stores = may.stores (blocks_of s.metaslabs) swept.those;
      floors = λ object. record {
        changed = subst (λ n. All (λ c. object_of c ≡ object → group_of c ≤ n) store.changes) (sym floor_is) (may.changed object);
        freed = λ m k h g there own stage. freed_low m k h g there stage;
      };
      settled = λ m k h there. (was m k h there).2;
      numbered = λ m k h there. (let low = r.stands.holds.numbered m k (was m k h there).0 (was m k h there).1 in let same = may.seq in omega (arith, low, same));
      bytes = λ m k h write there by. r.stands.holds.bytes m k (was m k h there).0 write (was m k h there).1 (sym (may.writes k) ∙ by);
      positive = subst (All (λ m. 1 ≤ mark_group m)) (sym may.marks) (All-cons (λ m. 1 ≤ mark_group m) (GivenUp group) x.store.marks (omega arith) r.stands.holds.positive);
    }

    -- ---- pointers

    -- a pointer leads to a live block yet
    pointer_stays : (object : ℕ) (p : Pointer) (w : Write) → table object ≡ Some p → p.object ≡ object → IsPointerOf old.metaslabs.shards.items p w → IsPointerOf new.metaslabs.shards.items p w
    pointer_stays object p w leads own of =
        let within = slice_get_within old.metaslabs.shards.items p.metaslab of.shard of.there in
        let same = r.stands.shards in
        let y = present x.metaslabs p.metaslab (omega (arith, within, same)) in
        let is = r.stands.each p.metaslab of.shard y.0 of.there y.1 in
        let there : blocks_of x.metaslabs p.metaslab (key_of p) ≡ Some (held_at (staged Live p)) = blocks_at x.metaslabs p.metaslab y.0 (key_of p) y.1 ∙ held_by of.shard y.0.world p is.stands.is_in of.live in
        let not = may.told.own p.metaslab p refl there (ap table own ∙ leads) in
        let stays = live_stays p.metaslab (key_of p) (held_at (staged Live p)) there not in
        let z = metaslab_at s.metaslabs p.metaslab (key_of p) (held_at (staged Live p)) stays in
        let inside = slice_get_within s.metaslabs p.metaslab z.0 z.1 in
        let long = s.stands.shards_are in
        let shard = present new.metaslabs.shards.items p.metaslab (omega (arith, inside, long)) in
        let now = s.stands.each p.metaslab shard.0 z.0 shard.1 z.1 in
        record {
          object_is = of.object_is;
          seq_is = of.seq_is;
          metaslab_is = of.metaslab_is;
          birth_is = of.birth_is;
          len_is = of.len_is;
          digest_is = of.digest_is;
          shard = shard.0;
          there = shard.1;
          live = live_by rack shard.0 z.0.world p now.valid now.stands.is_in (sym (blocks_at s.metaslabs p.metaslab z.0 (key_of p) z.1) ∙ stays) (sym (ap (λ (q : Part). q.number) now.part_is));
        }

    points_stay : (object : ℕ) (p : Option Pointer) (w : Option Write) → table object ≡ p → ((v : Write) → w ≡ Some v → v.object ≡ object) → PointsTo old.metaslabs.shards.items p w → PointsTo new.metaslabs.shards.items p w
    points_stay object None None leads own is = tt
    points_stay object None (Some w) leads own is = absurd is
    points_stay object (Some p) None leads own is = absurd is
    points_stay object (Some p) (Some w) leads own is = pointer_stays object p w leads (is.object_is ∙ own w refl) is

    objects_then : ((object : ℕ) (v : Write) → write_of store.changes object ≡ Some v → v.object ≡ object) → (object : ℕ) → PointsTo new.metaslabs.shards.items (get nat_eq new.own.objects object) (write_of store.changes object)
    objects_then own object = subst (λ o. PointsTo new.metaslabs.shards.items o (write_of store.changes object)) (sym (objects_are object))
        (points_stay object (table object) (write_of store.changes object) refl (own object) (may.objects object))

    -- ---- the pool

    stood : ((object : ℕ) (v : Write) → write_of store.changes object ≡ Some v → v.object ≡ object) → Stood rack area new.metaslabs.shards.items (λ object. get nat_eq new.own.objects object) reached (IsOneOf x.committed r.stands.shared)
    stood own = record {
      layout = r.stands.layout;
      many = s.long ∙ r.stands.many;
      shards_are = s.stands.shards_are;
      pieces = r.stands.pieces;
      each = s.stands.each;
      holds = holds;
      only = λ m k h there live out. (let z = live_was m k h there live in may.only m k h z.0 live z.1);
      checks = λ m y at. (let z = s.since m y at in
          subst (λ ms. IsBehindChecks x.committed ms y.world.open_group) (sym may.marks)
          (subst (IsBehindChecks x.committed (GivenUp group ∷ x.store.marks)) (sym z.2.open_group_is) (given_behind x.committed group z.0.world.open_group x.store.marks (r.stands.groups.checks m z.0 z.1))));
      marked = subst (AreMarkedUpto (max store.floor (x.committed + 1))) (sym may.marks)
          (All-cons (λ m. mark_group m ≤ max store.floor (x.committed + 1)) (GivenUp group) x.store.marks (omega arith) (marked_later group (max store.floor (x.committed + 1)) x.store.marks (omega arith) upto));
      objects = objects_then own;
      images = λ g m y found some at. (let z = s.since m y at in image_kept g z.0 y z.2.images (r.stands.images g m z.0 found some z.1));
      leaves = record { order = r.stands.leaves.order; each = λ m y at. (let z = s.since m y at in leaves_kept x.kept_leaf x.next_leaf z.0.world y.world z.2.images (r.stands.leaves.each m z.0 z.1)) };
      said = λ m y at. (let z = s.since m y at in (z.2.committed ∙ r.stands.groups.committed m z.0 z.1, alike_stays r.stands.shared z.0.world y.world z.2.images (r.stands.alike m z.0 z.1)));
    }

    rest : Rest rack area new r.stands.shared reached
    rest = record {
      geometry = r.stands.geometry ∙ sym geometry;
      versions = r.stands.versions;
      next = omega (arith, floor_is);
      last = omega (arith, floor_is, last);
      seq = may.seq ∙ (r.stands.seq ∙ sym seq);
      floor = (let was = r.stands.floor in let is = may.floor in omega (arith, was, is, floor));
      uber = uber_marked area old.uber new.uber x s.metaslabs store (GivenUp group) may.marks refl upto settled uber.sets
          (λ g late. uber.told g ∙ sym (given_told x.store.marks group g (omega (arith, late)))) r.stands.uber;
    }

    -- the frees, and the state to which they led
    pub record Forgotten : Type 0 where
      pub all : SweptAll rack area table group test x r.stands.pieces new.metaslabs.shards.items many
      pub represents : Represents rack area new (record x { metaslabs = all.swept.metaslabs; store = store })

    pub forgotten : ((object : ℕ) (v : Write) → write_of store.changes object ≡ Some v → v.object ≡ object) → Forgotten
    forgotten own = record { all = swept; represents = represents_of rack area new r.stands.shared reached (stood own) rest }

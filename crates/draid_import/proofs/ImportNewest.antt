-- A pool whose table has the newest block of each object that an import finds.
use Rattle.std.proofs.Common.{arith, ◌≡◌, ◌≤◌, ◌∙◌, ◌⊎◌, inl, inr, ℕ, Bool, true, false, List, Option, Some, None, length, refl, sym, ap, subst}
use Rattle.std.specs.Prelude.{◌↔◌, Contains, nat_eq, slice_get}
use Rattle.std.proofs.lemmas.Bool.Decides.{nat_tests}
use Rattle.std.specs.HashMap.{get}
use Rattle.std.proofs.lemmas.Bool.{cases_lt}
use Rattle.std.proofs.lemmas.Option.{slice_get_within}
use Rattle.sha2.specs.Sha256.{sha256}
use Rattle.draid_names.specs.declared.pointer.Pointer.{Pointer}
use Rattle.draid_rack.specs.declared.Rack as racks
use Rattle.draid_area.specs.declared.Area as areas
use Rattle.draid_machine.specs.declared.names.Held.{Held}
use Rattle.draid_machine.specs.declared.names.Key.{Key}
use Rattle.draid_machine.specs.declared.names.Stage.TheVariants as stage
use Rattle.draid_objects.specs.Marks.{Check, check_by, counted, is_dropped}
use Rattle.draid_objects.specs.Blocks.{Blocks, IsGreatest}
use Rattle.draid_objects.specs.Changes as changes
use Rattle.draid_objects.specs.Changes.{Write, write_by, write_of}
use Rattle.draid_objects.specs.Stores.{IsBlockOf}
use Rattle.draid_objects.proofs.Imaging.{greatest_none, greatest_some, last_live}
use Rattle.draid_objects.proofs.Sealing.{is_some_of, live_block}
use Rattle.draid_objects.proofs.Sealing as sealing
use Rattle.draid_segments.specs.Segments.{Pieces}
use Rattle.draid_entries.specs.declared.entry.Entry.{Entry}
use Rattle.draid_entries.specs.Entries.{entry_at}
use Rattle.draid_entries.specs.Maps.{held_at, key_of, staged}
use Rattle.draid_shard.specs.Looks.{IsLive}
use Rattle.draid_shard.specs.Part.{Part}
use Rattle.draid_shard.specs.States.{IsIn}
use Rattle.draid_shard.specs.declared.shard.Shard.{Shard}
use Rattle.draid_shard.proofs.Held.{HasEntry, held_entry, key_leads}
use Rattle.draid_uber.specs.Uber.{layout_of}
use Rattle.draid_uber.specs.declared.uber.Uber.{Uber}
use Rattle.draid_session.specs.Opening.{Finds, FreesOlder, Imports, IsLastSeq, IsOlder, layout_at_version}
use Rattle.draid_session.specs.State.{Metaslab, State, Store}
use Rattle.draid_import.specs.Imported.{AreLeft, FreedOlder, IsLastIn, IsNewestOf, SaysObjects, Stays, counted_of}
use Rattle.draid_checkpoint.specs.Check.{holds_birth}
use Rattle.draid_record.specs.declared.checks.Dropped.{Dropped}
use Rattle.draid_found.specs.Drops.{AreNewestBeside}
use Rattle.draid_found.specs.Found.{LeadsTo}
use Rattle.draid_found.specs.Older.{block_in}
use Rattle.draid_session.specs.Points.{IsPointOf, KeepsBirth}
use Rattle.draid_objects.proofs.Checking.{count_kept, count_undropped}
use Rattle.draid_machine.proofs.Small.{absurd_test, none_some, some_injective}
use Rattle.draid_pool.specs.Metaslabs.{IsMetaslab}
use Rattle.draid_import.specs.Importing.{ImportsPool}
use Rattle.draid_pool.specs.Objects.{HoldsObjects, IsLastAt, IsPointerOf, PointsTo, blocks_of}
use Rattle.draid_pool.specs.Pools.{Represents, part_in}
use Rattle.draid_pool.specs.Ubers.{IsUber}
use Rattle.draid_pool.specs.declared.pool.Pool.{Pool}
use Rattle.draid_import.proofs.ImportFound.{held_there}
use Rattle.draid_import.proofs.ImportOlder.{frees_older, later_counts}
use Rattle.draid_pool.proofs.Lists.{present, some_of}
use Rattle.draid_pool.proofs.Lives.{held_by, live_by}
use Rattle.draid_pool.proofs.Moved.{blocks_at}

-- ---- pointers

-- what isn't so
pub not_true : (b : Bool) → (b ≡ true → ⊥) → b ≡ false
not_true true never = absurd (never refl)
not_true false never = refl

-- a pointer is known by its key, its metaslab and what a state has of its block
same_pointer : (p q : Pointer) → key_of p ≡ key_of q → held_at (staged stage.Live p) ≡ held_at (staged stage.Live q) → p.metaslab ≡ q.metaslab → p ≡ q
same_pointer p q key held metaslab = λ i. record {
  object = (key i).object;
  seq = (key i).seq;
  metaslab = metaslab i;
  first = (held i).first;
  stripes = (held i).stripes;
  len = (held i).len;
  birth = (held i).birth;
  digest = (held i).digest;
}

-- the newest block of an object has the greatest number
pub is_greatest : (blocks : Blocks) (newest : ℕ → Option Pointer) (object : ℕ) (p : Pointer) → IsNewestOf blocks newest → newest object ≡ Some p → IsGreatest blocks (key_of p)
is_greatest blocks newest object p n is m k same some =
    let h = sealing.some_of (blocks m k) some in
    let q = n.greatest m k h.0 h.1 in
    let at : newest object ≡ Some q.0 = ap newest (sym (same ∙ n.own object p is)) ∙ q.1 in
    let equal : q.0 ≡ p = some_of (newest object) q.0 p at is in
    subst (λ (r : Pointer). k.seq ≤ r.seq) equal q.2

-- where none is noted of an object, it has no block
none_there : (blocks : Blocks) (newest : ℕ → Option Pointer) (object : ℕ) → IsNewestOf blocks newest → newest object ≡ None → (m : ℕ) (k : Key) → k.object ≡ object → blocks m k ≡ None
none_there blocks newest object n none m k same = by (blocks m k) refl
  where
    by : (o : Option Held) → blocks m k ≡ o → blocks m k ≡ None
    by None is = is
    by (Some h) is =
        let q = n.greatest m k h is in
        let at : newest object ≡ Some q.0 = ap newest (sym same) ∙ q.1 in
        let both = sym none ∙ at in
        absurd (cc)

module _ {R A : Type 0} (rack : racks.Ghosts R) (area : areas.Ghosts A) where
  -- ---- what shards have, as states have it

  module _ (shards : List (Shard R A)) (x : State) (many : length shards ≡ length x.metaslabs)
      (in_state : (m : ℕ) (shard : Shard R A) (y : Metaslab) → slice_get shards m ≡ Some shard → slice_get x.metaslabs m ≡ Some y → IsIn shard y.world) where
    shard_there : (m : ℕ) (y : Metaslab) → slice_get x.metaslabs m ≡ Some y → (shard : Shard R A) × (slice_get shards m ≡ Some shard)
    shard_there m y at = (let within = slice_get_within x.metaslabs m y at in present shards m (omega (arith, within, many)))

    state_there : (m : ℕ) (shard : Shard R A) → slice_get shards m ≡ Some shard → (y : Metaslab) × (slice_get x.metaslabs m ≡ Some y)
    state_there m shard at = (let within = slice_get_within shards m shard at in present x.metaslabs m (omega (arith, within, many)))

    -- the entry of a block that is held
    pub record Found (m : ℕ) (k : Key) (h : Held) : Type 0 where
      pub shard : Shard R A
      pub at : slice_get shards m ≡ Some shard
      pub y : Metaslab
      pub there : slice_get x.metaslabs m ≡ Some y
      pub entry : HasEntry shard.entries k h

    pub found : (m : ℕ) (k : Key) (h : Held) → blocks_of x.metaslabs m k ≡ Some h → Found m k h
    found m k h is =
        let z = held_there x.metaslabs m k h is in
        let s = shard_there m z.0 z.1 in
        record { shard = s.0; at = s.1; y = z.0; there = z.1; entry = held_entry s.0.entries k h (sym ((in_state m s.0 z.0 s.1 z.1).held k) ∙ z.2) }

    pub last_in : (seq : ℕ) → IsLastIn shards seq → IsLastSeq x seq
    last_in seq l = record {
      one = by l.one;
      all = λ m y k h at held.
          (let f = found m k h (blocks_at x.metaslabs m y k at ∙ held) in
          subst (λ (j : Key). j.seq ≤ seq) f.entry.key_is (l.all m f.shard h.first f.entry.e f.at f.entry.there));
    }
      where
        by : (seq ≡ 0) ⊎ ((m : ℕ) × (shard : Shard R A) × (first : ℕ) × (e : Entry) × (slice_get shards m ≡ Some shard) × (entry_at shard.entries first ≡ Some e) × (seq ≡ e.pointer.seq))
            → (seq ≡ 0) ⊎ ((m : ℕ) × (y : Metaslab) × (k : Key) × (h : Held) × (slice_get x.metaslabs m ≡ Some y) × (y.world.core.held k ≡ Some h) × (seq ≡ k.seq))
        by (inl none) = inl none
        by (inr z) =
            let y = state_there z.0 z.1 z.4 in
            inr (z.0, y.0, key_of z.3.pointer, held_at z.3, y.1, (in_state z.0 z.1 y.0 z.4 y.1).held (key_of z.3.pointer) ∙ key_leads z.1.entries z.2 z.3 z.5, z.6)

    -- the block of a pointer that leads to a shard
    pub block_led : (object : ℕ) (p : Pointer) → LeadsTo shards object p → blocks_of x.metaslabs p.metaslab (key_of p) ≡ Some (held_at (staged stage.Live p))
    block_led object p l =
        let y = state_there p.metaslab l.shard l.there in
        blocks_at x.metaslabs p.metaslab y.0 (key_of p) y.1 ∙ held_by l.shard y.0.world p (in_state p.metaslab l.shard y.0 l.there y.1) l.live

    -- that of an entry
    pub block_entered : (m : ℕ) (shard : Shard R A) (first : ℕ) (e : Entry) → slice_get shards m ≡ Some shard → entry_at shard.entries first ≡ Some e → blocks_of x.metaslabs m (key_of e.pointer) ≡ Some (held_at e)
    block_entered m shard first e at there =
        let y = state_there m shard at in
        blocks_at x.metaslabs m y.0 (key_of e.pointer) y.1 ∙ ((in_state m shard y.0 at y.1).held (key_of e.pointer) ∙ key_leads shard.entries first e there)

    -- of the blocks that a record doesn't name the table has the newest, as those that count
    pub newest_of : (newest : ℕ → Option Pointer) (drops : List Dropped) (check : Option Check) → ((k : Key) → (is_dropped check k ≡ true) ↔ Contains drops (record { object = k.object; seq = k.seq }))
        → AreNewestBeside shards drops newest → IsNewestOf (counted check (blocks_of x.metaslabs)) newest
    newest_of newest drops check named n = record {
      own = λ object p is. (n.pointers object p is).0.object_is;
      there = λ object p is.
          (let l = n.pointers object p is in
          count_kept check (blocks_of x.metaslabs) p.metaslab (key_of p) (not_true (is_dropped check (key_of p)) (λ has. l.1 ((named (key_of p)).0 has))) ∙ block_led object p l.0);
      greatest = λ m k h is.
          (let counts = count_undropped check (blocks_of x.metaslabs) m k (is_some_of (counted check (blocks_of x.metaslabs) m k) h is) in
          let f = found m k h (sym (count_kept check (blocks_of x.metaslabs) m k counts) ∙ is) in
          let out : Contains drops (block_in f.entry.e.pointer) → ⊥ = (λ has. absurd_test (is_dropped check k) ((named k).1 (subst (λ (j : Key). Contains drops (record { object = j.object; seq = j.seq })) f.entry.key_is has)) counts) in
          let g = n.known m f.shard h.first f.entry.e f.at f.entry.there out in
          (g.0, ap (λ (j : Key). newest j.object) (sym f.entry.key_is) ∙ g.1, subst (λ (j : Key). j.seq ≤ g.0.seq) f.entry.key_is g.2));
    }

  -- ---- the end

  module _ (mid : State) (uber : Uber A) (pieces : ℕ → Pieces) (says : SaysObjects mid) (holds : HoldsObjects mid.geometry mid.committed mid.store (blocks_of mid.metaslabs) pieces)
      (all_live : (m : ℕ) (k : Key) (h : Held) → blocks_of mid.metaslabs m k ≡ Some h → h.stage ≡ stage.Live) (newest : ℕ → Option Pointer) (n : IsNewestOf (counted_of mid) newest)
      (own : Option ℕ) (point : IsPointOf mid.store.marks own)
      (keeps : (m : ℕ) (k : Key) (h : Held) → blocks_of mid.metaslabs m k ≡ Some h → is_dropped (check_by mid.store.marks) k ≡ true → KeepsBirth mid.store.marks h.birth)
      (drops : (m : ℕ) (k : Key) (h : Held) → blocks_of mid.metaslabs m k ≡ Some h → KeepsBirth mid.store.marks h.birth → (is_dropped (check_by mid.store.marks) k ≡ true) ⊎ ((p : Pointer) × (newest k.object ≡ Some p) × (key_of p ≡ k)))
      (shards : List (Shard R A)) (s : FreedOlder rack area mid shards uber pieces) where
    abbrev x : State
    x = s.reached

    in_reached : (m : ℕ) (shard : Shard R A) (y : Metaslab) → slice_get shards m ≡ Some shard → slice_get x.metaslabs m ≡ Some y → IsIn shard y.world
    in_reached m shard y at there = (s.stands.each m shard y at there).stands.is_in

    y_at : (m : ℕ) (shard : Shard R A) → slice_get shards m ≡ Some shard → (y : Metaslab) × (slice_get x.metaslabs m ≡ Some y)
    y_at m shard at = state_there shards x s.stands.shards_are in_reached m shard at

    -- the newest has no later one
    not_older : (object : ℕ) (p : Pointer) → newest object ≡ Some p → IsOlder mid (key_of p) → ⊥
    not_older object p is older =
        let most = is_greatest (counted_of mid) newest object p n is older.m older.later older.same (later_counts mid (key_of p) older) in
        let greater = older.greater in
        omega (arith, most, greater)

    one_metaslab : (m o : ℕ) (k j : Key) (g h : Held) → k ≡ j → blocks_of mid.metaslabs m k ≡ Some g → blocks_of mid.metaslabs o j ≡ Some h → m ≡ o
    one_metaslab m o k j g h same a b =
        let v = holds.stores.only m k g a (live_block g.stage (all_live m k g a)) in
        let w = holds.stores.only o j h b (live_block h.stage (all_live o j h b)) in
        let equal : v.0 ≡ w.0 = some_of (write_by mid.store.changes j) v.0 w.0 (ap (write_by mid.store.changes) (sym same) ∙ v.1) w.1 in
        sym v.2 ∙ (ap (λ (z : Write). z.metaslab) equal ∙ w.2)

    -- the newest block of an object counts, and is there
    pub newest_counts : (object : ℕ) (p : Pointer) → newest object ≡ Some p → is_dropped (check_by mid.store.marks) (key_of p) ≡ false
    newest_counts object p is = count_undropped (check_by mid.store.marks) (blocks_of mid.metaslabs) p.metaslab (key_of p) (is_some_of (counted_of mid p.metaslab (key_of p)) (held_at (staged stage.Live p)) (n.there object p is))

    pub newest_there : (object : ℕ) (p : Pointer) → newest object ≡ Some p → blocks_of mid.metaslabs p.metaslab (key_of p) ≡ Some (held_at (staged stage.Live p))
    newest_there object p is = sym (count_kept (check_by mid.store.marks) (blocks_of mid.metaslabs) p.metaslab (key_of p) (newest_counts object p is)) ∙ n.there object p is

    -- what was born so is the checkpoint's just where the uberblock says so
    kept_by : (o : Option ℕ) → IsPointOf mid.store.marks o → (birth : ℕ) → KeepsBirth mid.store.marks birth → holds_birth o birth ≡ true
    kept_by None none birth keeps = absurd (none_some (check_by mid.store.marks) keeps.0 none keeps.1)
    kept_by (Some group) (check, is, same) birth (c, there, low) =
        let one = ap (λ (z : Check). z.group) (some_injective c check (sym there ∙ is)) in
        grind (arith, nat_tests, low, one, same)

    pub keeps_by : (o : Option ℕ) → IsPointOf mid.store.marks o → (birth : ℕ) → holds_birth o birth ≡ true → KeepsBirth mid.store.marks birth
    keeps_by None none birth held = absurd (cc)
    keeps_by (Some group) (check, is, same) birth held = (check, is, grind (arith, nat_tests, held, same))

    -- a live block that doesn't stay is kept by no checkpoint, and counts
    pub loose_by : (p : Pointer) → (Stays newest own p → ⊥) → KeepsBirth mid.store.marks p.birth → ⊥
    loose_by p gone keeps_it = gone (inr (kept_by own point p.birth keeps_it))

    there_by : (m : ℕ) (shard : Shard R A) (p : Pointer) → slice_get shards m ≡ Some shard → IsLive shard p → blocks_of mid.metaslabs m (key_of p) ≡ Some (held_at (staged stage.Live p))
    there_by m shard p at live =
        let y = y_at m shard at in
        s.kept m (key_of p) (held_at (staged stage.Live p)) (blocks_at x.metaslabs m y.0 (key_of p) y.1 ∙ held_by shard y.0.world p (in_reached m shard y.0 at y.1) live) refl

    pub counts_by : (m : ℕ) (shard : Shard R A) (p : Pointer) → slice_get shards m ≡ Some shard → IsLive shard p → (Stays newest own p → ⊥) → is_dropped (check_by mid.store.marks) (key_of p) ≡ false
    counts_by m shard p at live gone =
        not_true (is_dropped (check_by mid.store.marks) (key_of p)) (λ has. loose_by p gone (keeps m (key_of p) (held_at (staged stage.Live p)) (there_by m shard p at live) has))

    -- it has a later one
    pub older_by : (m : ℕ) (shard : Shard R A) (p : Pointer) → slice_get shards m ≡ Some shard → IsLive shard p → p.metaslab ≡ m → (Stays newest own p → ⊥) → IsOlder mid (key_of p)
    older_by m shard p at live here gone = elim (cases_lt p.seq q.0.seq) [
      | inl less ↦
          let z = held_there mid.metaslabs q.0.metaslab (key_of q.0) (held_at (staged stage.Live q.0)) (newest_there p.object q.0 q.1) in
          record { m = q.0.metaslab; y = z.0; later = key_of q.0; held = held_at (staged stage.Live q.0); there = z.1; found = z.2; same = own_is; greater = less; counts = newest_counts p.object q.0 q.1 }
      | inr over ↦ absurd (gone (inl (q.1 ∙ ap Some (sym (equal over)))))
    ]
      where
        there : blocks_of mid.metaslabs m (key_of p) ≡ Some (held_at (staged stage.Live p))
        there = there_by m shard p at live

        q : (q : Pointer) × (newest p.object ≡ Some q) × (p.seq ≤ q.seq)
        q = n.greatest m (key_of p) (held_at (staged stage.Live p)) (count_kept (check_by mid.store.marks) (blocks_of mid.metaslabs) m (key_of p) (counts_by m shard p at live gone) ∙ there)

        own_is : q.0.object ≡ p.object
        own_is = n.own p.object q.0 q.1

        equal : q.0.seq ≤ p.seq → p ≡ q.0
        equal over =
            let low = q.2 in
            let seq : p.seq ≡ q.0.seq = omega (arith, over, low) in
            let key : key_of p ≡ key_of q.0 = (λ i. record { object = sym own_is i; seq = seq i }) in
            let it = newest_there p.object q.0 q.1 in
            let metaslab : m ≡ q.0.metaslab = one_metaslab m q.0.metaslab (key_of p) (key_of q.0) (held_at (staged stage.Live p)) (held_at (staged stage.Live q.0)) key there it in
            same_pointer p q.0 key
            (some_of (blocks_of mid.metaslabs q.0.metaslab (key_of q.0)) (held_at (staged stage.Live p)) (held_at (staged stage.Live q.0)) ((λ i. blocks_of mid.metaslabs (sym metaslab i) (sym key i)) ∙ there) it)
            (here ∙ metaslab)

    module _ (only : AreLeft shards newest own) where
      -- what is live yet, and counts, is the newest of its object
      left : (m : ℕ) (k : Key) (h : Held) → blocks_of x.metaslabs m k ≡ Some h → h.stage ≡ stage.Live → is_dropped (check_by mid.store.marks) k ≡ false → (p : Pointer) × (newest k.object ≡ Some p) × (key_of p ≡ k) × (p.metaslab ≡ m)
      left m k h is live counts = by (only m f.shard h.first f.entry.e f.at f.entry.there (ap (λ (i : Held). i.stage) f.entry.held_is ∙ live))
        where
          f : Found shards x s.stands.shards_are in_reached m k h
          f = found shards x s.stands.shards_are in_reached m k h is

          it : IsMetaslab rack area (part_in x m) (pieces m) f.shard f.y
          it = s.stands.each m f.shard f.y f.at f.there

          was : blocks_of mid.metaslabs m k ≡ Some h
          was = s.kept m k h is live

          birth : f.entry.e.pointer.birth ≡ h.birth
          birth = ap (λ (i : Held). i.birth) f.entry.held_is

          by : Stays newest own f.entry.e.pointer → (p : Pointer) × (newest k.object ≡ Some p) × (key_of p ≡ k) × (p.metaslab ≡ m)
          by (inl is_newest) = (
            f.entry.e.pointer,
            ap (λ (j : Key). newest j.object) (sym f.entry.key_is) ∙ is_newest,
            f.entry.key_is,
            it.valid.here.each h.first f.entry.e f.entry.there ∙ ap (λ (p : Part). p.number) it.part_is,
          )
          by (inr kept_it) = elim (drops m k h was (keeps_by own point h.birth (ap (holds_birth own) (sym birth) ∙ kept_it))) [
            | inl gone ↦ absurd (absurd_test (is_dropped (check_by mid.store.marks) k) gone counts)
            | inr own_p ↦ (
              own_p.0,
              own_p.1,
              own_p.2,
              sym (one_metaslab m own_p.0.metaslab k (key_of own_p.0) h (held_at (staged stage.Live own_p.0)) (sym own_p.2) was (newest_there k.object own_p.0 own_p.1)),
            )
          ]

      -- the write that a newest block is of
      write_at : (object : ℕ) (p : Pointer) → newest object ≡ Some p → (w : Write) × (write_of mid.store.changes object ≡ Some w) × (w.metaslab ≡ p.metaslab) × (changes.key_of w ≡ key_of p)
      write_at object p is = greatest_some (counted_of mid) object p.metaslab (key_of p) (write_of mid.store.changes object) (says object) (n.own object p is)
          (is_some_of (counted_of mid p.metaslab (key_of p)) (held_at (staged stage.Live p)) (n.there object p is)) (is_greatest (counted_of mid) newest object p n is)

      -- and it is live still
      stays : (object : ℕ) (p : Pointer) → newest object ≡ Some p → blocks_of x.metaslabs p.metaslab (key_of p) ≡ Some (held_at (staged stage.Live p))
      stays object p is = elim (s.each p.metaslab (key_of p) (held_at (staged stage.Live p)) (newest_there object p is)) [
        | inl gone ↦ absurd (not_older object p is (frees_older mid mid.committed p.metaslab (key_of p) s.holds s.older gone))
        | inr there ↦ there
      ]

      pointer_of : (object : ℕ) (p : Pointer) (w : Write) → newest object ≡ Some p → write_of mid.store.changes object ≡ Some w → w.metaslab ≡ p.metaslab → changes.key_of w ≡ key_of p → IsPointerOf shards p w
      pointer_of object p w is last here key =
          let h = last_live sha256 mid.committed object mid.store.changes mid.store.marks (blocks_of mid.metaslabs) w holds.stores last in
          let same : h.0 ≡ held_at (staged stage.Live p)
          = some_of (blocks_of mid.metaslabs p.metaslab (key_of p)) h.0 (held_at (staged stage.Live p)) ((λ i. blocks_of mid.metaslabs (sym here i) (sym key i)) ∙ h.1) (newest_there object p is) in
          let of : IsBlockOf sha256 w (held_at (staged stage.Live p)) = subst (IsBlockOf sha256 w) same h.3 in
          let z = held_there x.metaslabs p.metaslab (key_of p) (held_at (staged stage.Live p)) (stays object p is) in
          let at = shard_there shards x s.stands.shards_are in_reached p.metaslab z.0 z.1 in
          let it = s.stands.each p.metaslab at.0 z.0 at.1 z.1 in
          record {
            object_is = ap (λ (k : Key). k.object) (sym key);
            seq_is = ap (λ (k : Key). k.seq) (sym key);
            metaslab_is = sym here;
            birth_is = of.birth;
            len_is = of.len;
            digest_is = of.digest_is;
            shard = at.0;
            there = at.1;
            live = live_by rack at.0 z.0.world p it.valid it.stands.is_in z.2 (sym (ap (λ (q : Part). q.number) it.part_is));
          }

      points : (object : ℕ) → PointsTo shards (newest object) (write_of mid.store.changes object)
      points object = by (newest object) refl
        where
          by : (o : Option Pointer) → newest object ≡ o → PointsTo shards (newest object) (write_of mid.store.changes object)
          by None is =
              let none = greatest_none (counted_of mid) object (write_of mid.store.changes object) (says object) (none_there (counted_of mid) newest object n is) in
              subst (λ o. PointsTo shards o (write_of mid.store.changes object)) (sym is) (subst (PointsTo shards None) (sym none) tt)
          by (Some p) is =
              let w = write_at object p is in
              subst (λ o. PointsTo shards o (write_of mid.store.changes object)) (sym is) (subst (PointsTo shards (Some p)) (sym w.1) (pointer_of object p w.0 is w.1 w.2 w.3))

      pub import_stands : (pool : Pool R A) → pool.metaslabs.shards.items ≡ shards → pool.uber ≡ uber → pool.geometry ≡ layout_of uber → pool.own.seq ≡ mid.store.seq → pool.own.floor ≡ mid.store.floor
          → ((object : ℕ) → get nat_eq pool.own.objects object ≡ newest object) → Represents rack area pool x
      import_stands pool items uber_is layout seq floor table = record {
        stands = record {
          geometry = sym (s.stands.uber_is.layout ∙ (λ i. layout_at_version (s.stands.at_version i) x.geometry)) ∙ sym layout;
          layout = s.stands.layout;
          many = s.stands.many;
          shards = ap (λ zs. length zs) items ∙ s.stands.shards_are;
          pieces = pieces;
          each = λ m shard y at there. s.stands.each m shard y (sym (ap (λ zs. slice_get zs m) items) ∙ at) there;
          holds = s.stands.holds;
          groups = s.stands.groups;
          objects = λ object. subst (λ zs. PointsTo zs (get nat_eq pool.own.objects object) (write_of x.store.changes object)) (sym items)
              (subst (λ o. PointsTo shards o (write_of x.store.changes object)) (sym (table object))
              (subst (λ (z : Store). PointsTo shards (newest object) (write_of z.changes object)) (sym s.same_store) (points object)));
          seq = ap (λ (z : Store). z.seq) s.same_store ∙ sym seq;
          floor = ap (λ (z : Store). z.floor) s.same_store ∙ sym floor;
          uber = subst (λ u. IsUber area u x) (sym uber_is) s.stands.uber_is;
          images = s.stands.images;
          leaves = s.stands.leaves;
          shared = s.stands.shared;
          versions = s.stands.versions;
          alike = s.stands.alike;
        };
        only = λ m k h is live counts.
            (let p = left m k h is live (ap (λ (z : Store). is_dropped (check_by z.marks) k) (sym s.same_store) ∙ counts) in
            let w = write_at k.object p.0 p.1 in
            subst (IsLastAt m k) (sym (ap (λ (z : Store). write_of z.changes k.object) s.same_store ∙ w.1)) (w.2 ∙ p.3, w.3 ∙ p.2));
      }

      -- the import, of a pool that rested on the shelf
      pub imports : (before : State) (group : ℕ) → Finds before group mid → IsLastSeq mid mid.store.seq → Imports before group x
      imports before group finds seq = record {
        mid = mid;
        finds = finds;
        seq = seq;
        dropped = λ m y key h at held older pointed. elim (drops m key h (blocks_at mid.metaslabs m y key at ∙ held) pointed) [
          | inl gone ↦ gone
          | inr own_p ↦ absurd (not_older key.object own_p.0 own_p.1 (subst (IsOlder mid) (sym own_p.2) older))
        ];
        holds = s.holds;
        older = subst (λ g. FreesOlder mid g s.holds) finds.committed s.older;
        all = λ m y key h at held older loose. elim (s.each m key h (blocks_at mid.metaslabs m y key at ∙ held)) [
          | inl gone ↦ gone
          | inr there ↦
              let was = blocks_at mid.metaslabs m y key at ∙ held in
              let p = left m key h there (all_live m key h was) (not_true (is_dropped (check_by mid.store.marks) key) (λ has. loose (keeps m key h was has))) in
              absurd (not_older key.object p.0 p.1 (subst (IsOlder mid) (sym p.2) older))
        ];
        follows = s.follows;
      }

      pub imports_pool : (before : State) (group : ℕ) (pool : Pool R A) → Finds before group mid → IsLastSeq mid mid.store.seq → pool.metaslabs.shards.items ≡ shards → pool.uber ≡ uber → pool.geometry ≡ layout_of uber
          → pool.own.seq ≡ mid.store.seq → pool.own.floor ≡ mid.store.floor → ((object : ℕ) → get nat_eq pool.own.objects object ≡ newest object) → ImportsPool rack area before pool
      imports_pool before group pool finds last items uber_is layout seq floor table = record {
        group = group;
        new = x;
        imports = imports before group finds last;
        represents = import_stands pool items uber_is layout seq floor table;
      }

-- Objects go back to a checkpoint: what befalls them then, and which blocks they have.
use Rattle.std.proofs.Common.{arith, ◌≡◌, ◌==◌, ◌+◌, ◌++◌, ◌≤◌, ◌∙◌, ◌⊎◌, inl, inr, ℕ, true, false, List, [], ◌∷◌, Option, Some, None, All, refl, sym, ap, subst, max, cond, if◌then◌else◌}
use Rattle.std.specs.Prelude.{IsSome, find, map, nat_le, nat_lt, slice_get}
use Rattle.std.proofs.lemmas.Bool.Decides.{nat_tests}
use Rattle.std.proofs.lemmas.List.Elements.{All-append, All-cons, All-filter, All-head, All-nil, All-tail, All-weaker}
use Rattle.std.proofs.lemmas.Option.{slice_get_within}
use Rattle.sha2.specs.Sha256.{sha256}
use Rattle.draid_names.specs.declared.pointer.Pointer.{Pointer}
use Rattle.draid_rack.specs.declared.Rack as racks
use Rattle.draid_area.specs.declared.Area as areas
use Rattle.draid_machine.specs.declared.names.Held.{Held}
use Rattle.draid_machine.specs.declared.names.Key.{Key}
use Rattle.draid_machine.specs.declared.names.Stage.TheVariants.{Live}
use Rattle.draid_machine.specs.After.{seal_held}
use Rattle.draid_machine.proofs.Seals.{sealed_held}
use Rattle.draid_machine.specs.Names.{is_block, is_freed_by}
use Rattle.draid_machine.proofs.Small.{bool_cases, equal, is_equal, none_some}
use Rattle.draid_objects.specs.Blocks.{Blocks, SaysOf, sealed_at}
use Rattle.draid_objects.specs.Changes.{Change, Freed, Restored, Write, Wrote, group_of, has_key, kept, key_of as key_in, object_of, upto as changes_upto, write_by, write_in, write_of}
use Rattle.draid_objects.specs.Marks.{Check, GivenUp, born_by, born_upto, check_at, check_by}
use Rattle.draid_objects.specs.Rewinds.{GoesBack, IsRewound, is_younger}
use Rattle.draid_objects.specs.Stores.{HasCheck, IsBlockOf, IsFloor}
use Rattle.draid_objects.proofs.Checking.{born_some}
use Rattle.draid_objects.proofs.Finding.{changes_it, other_changes}
use Rattle.draid_objects.proofs.Keeping.{floor_up}
use Rattle.draid_objects.proofs.Marking.{check_at_low}
use Rattle.draid_objects.proofs.Rewinding.{rewound}
use Rattle.draid_objects.proofs.Sealing.{gone_sealed, is_some_of, live_block, sealed_some, stages}
use Rattle.draid_objects.proofs.Sealing as sealing
use Rattle.draid_entries.specs.Entries.{entry_at}
use Rattle.draid_entries.specs.Maps.{held_at, key_of, staged}
use Rattle.draid_shard.specs.Looks.{IsLive}
use Rattle.draid_shard.specs.Part.{Part}
use Rattle.draid_shard.specs.declared.shard.Shard.{Shard}
use Rattle.draid_shard.proofs.Held.{held_entry}
use Rattle.draid_session.specs.State.{State, Store}
use Rattle.draid_pool.specs.Objects.{IsLastAt, PointsTo, blocks_of}
use Rattle.draid_pool.specs.Pools.{Represents}
use Rattle.draid_pool.specs.declared.pool.Pool.{Pool}
use Rattle.draid_pool.proofs.Lists.{present, some_of}
use Rattle.draid_pool.proofs.Lives.{held_by}
use Rattle.draid_pool.proofs.Marked.{marked_later}
use Rattle.draid_pool.proofs.Moved.{blocks_at}
use Rattle.draid_rewinds.specs.Tables.{AreNewestBorn}
use Rattle.draid_rewinds.proofs.Forgotten.{MayForget}
use Rattle.draid_rewinds.proofs.Letting.{at_top, floor_top, own_object, same_pointer, top}
use Rattle.draid_rewinds.proofs.Swept.{IsTestOf, metaslab_at}

-- ---- changes

module _ (check group : ℕ) (old : List Change) where
  abbrev pub back_to : (o : ℕ) → Option Write → Change
  back_to o None = Freed o group
  back_to o (Some w) = Restored w group

  abbrev pub back_of : Change → Change
  back_of c = back_to (object_of c) (kept check old (object_of c))

  -- what befalls the objects to which something had befallen
  abbrev pub backs : List Change
  backs = map back_of old

  to_object : (o : ℕ) (w : Option Write) → ((v : Write) → w ≡ Some v → v.object ≡ o) → object_of (back_to o w) ≡ o
  to_object o None own = refl
  to_object o (Some w) own = own w refl

  to_write : (o : ℕ) (w : Option Write) → write_in (Some (back_to o w)) ≡ w
  to_write o None = refl
  to_write o (Some w) = refl

  kept_own : (o : ℕ) (v : Write) → kept check old o ≡ Some v → v.object ≡ o
  kept_own o v is = own_object (changes_upto check old) o v is

  back_object : (c : Change) → object_of (back_of c) ≡ object_of c
  back_object c = to_object (object_of c) (kept check old (object_of c)) (kept_own (object_of c))

  goes_to : (o : ℕ) (w : Option Write) → kept check old o ≡ w → GoesBack check group old (back_to o w)
  goes_to o None is = (refl, is)
  goes_to o (Some w) is = (refl, ap (kept check old) (kept_own o w is) ∙ is)

  pub backs_go : (cs : List Change) → All (GoesBack check group old) (map back_of cs)
  backs_go [] = All-nil (GoesBack check group old)
  backs_go (c ∷ cs) = All-cons (GoesBack check group old) (back_of c) (map back_of cs) (goes_to (object_of c) (kept check old (object_of c)) refl) (backs_go cs)

  -- an object to which something had befallen has what the group kept, and any other what it had
  now_at : (cs : List Change) (o : ℕ) → (write_of (map back_of cs ++ old) o ≡ kept check old o) ⊎ ((write_of (map back_of cs ++ old) o ≡ write_of old o) × All (λ c. (object_of c == o) ≡ false) cs)
  now_at [] o = inr (refl, All-nil (λ c. (object_of c == o) ≡ false))
  now_at (c ∷ cs) o = elim (bool_cases (object_of c == o)) [
    | inl here ↦
        let at : object_of c ≡ o = is_equal (object_of c) o here in
        inl (changes_it (back_of c) (map back_of cs ++ old) o (equal (object_of (back_of c)) o (back_object c ∙ at)) ∙ (to_write (object_of c) (kept check old (object_of c)) ∙ ap (kept check old) at))
    | inr other ↦
        let skip : write_of (back_of c ∷ (map back_of cs ++ old)) o ≡ write_of (map back_of cs ++ old) o = other_changes (back_of c) (map back_of cs ++ old) o (ap (λ n. n == o) (back_object c) ∙ other) in
        elim (now_at cs o) [
          | inl is ↦ inl (skip ∙ is)
          | inr is ↦ inr (skip ∙ is.0, All-cons (λ d. (object_of d == o) ≡ false) c cs other is.1)
        ]
  ]

  none_of : (cs : List Change) (o : ℕ) → All (λ c. (object_of c == o) ≡ false) cs → write_of cs o ≡ None
  none_of [] o all = refl
  none_of (c ∷ cs) o all = other_changes c cs o (All-head (λ d. (object_of d == o) ≡ false) c cs all) ∙ none_of cs o (All-tail (λ d. (object_of d == o) ≡ false) c cs all)

  pub rewound_by : IsRewound check group old (backs ++ old)
  rewound_by = record {
    back = backs;
    are = refl;
    each = backs_go old;
    now = λ o. elim (now_at old o) [
      | inl is ↦ is
      | inr is ↦ is.0 ∙ (none_of old o is.1 ∙ sym (none_of (changes_upto check old) o (All-filter (λ c. nat_le (group_of c) check) (λ c. (object_of c == o) ≡ false) old is.1)))
    ];
  }

  back_group : (c : Change) → GoesBack check group old c → group_of c ≡ group
  back_group (Wrote w) goes = absurd goes
  back_group (Freed o g) goes = goes.0
  back_group (Restored w g) goes = goes.0

  back_key : (c : Change) (k : Key) → GoesBack check group old c → has_key k c ≡ false
  back_key (Wrote w) k goes = absurd goes
  back_key (Freed o g) k goes = refl
  back_key (Restored w g) k goes = refl

  pub writes_stay : (cs : List Change) (k : Key) → All (GoesBack check group old) cs → write_by (cs ++ old) k ≡ write_by old k
  writes_stay [] k all = refl
  writes_stay (c ∷ cs) k all =
      ap (λ b. write_in (cond b (Some c) (find (has_key k) (cs ++ old)))) (back_key c k (All-head (GoesBack check group old) c cs all))
      ∙ writes_stay cs k (All-tail (GoesBack check group old) c cs all)

  pub groups_upto : (o : ℕ) → All (λ c. object_of c ≡ o → group_of c ≤ group) old → All (λ c. object_of c ≡ o → group_of c ≤ group) (backs ++ old)
  groups_upto o all = All-append (λ c. object_of c ≡ o → group_of c ≤ group) backs old
      (All-weaker (GoesBack check group old) (λ c. object_of c ≡ o → group_of c ≤ group) (λ c goes own. (let is = back_group c goes in omega (arith, is))) backs (backs_go old)) all

-- ---- blocks

not_younger : (a b : ℕ) → b ≤ a → nat_lt a b ≡ false
not_younger a b low = grind (arith, nat_tests, low)

younger_not : (a b : ℕ) → nat_lt a b ≡ false → b ≤ a
younger_not a b is = grind (arith, nat_tests, is)

module _ {R A : Type 0} (rack : racks.Ghosts R) (area : areas.Ghosts A) (pool : Pool R A) (x : State) (r : Represents rack area pool x) (c : Check) (check : check_by x.store.marks ≡ Some c) where
  abbrev blocks : Blocks
  blocks = blocks_of x.metaslabs

  abbrev t : ℕ
  t = top rack area pool x r

  at_t : check_at t x.store.marks ≡ Some c
  at_t = at_top rack area pool x r ∙ check

  -- the checkpoint's blocks
  pub has : HasCheck x.store.changes c (sealed_at t blocks)
  has = r.stands.holds.stores.checked t c (omega arith) at_t

  group_low : c.group ≤ t
  group_low = check_at_low t x.store.marks c at_t

  -- a live block that was born up to it is one
  pub born_there : (m : ℕ) (k : Key) (h : Held) → blocks m k ≡ Some h → h.stage ≡ Live → h.birth ≤ c.group → IsSome (born_upto c.group (sealed_at t blocks) m k)
  born_there m k h there live early = is_some_of (born_upto c.group (sealed_at t blocks) m k) (record h { stage = Live })
      (ap (λ o. born_by c.group (seal_held t o)) there
      ∙ (ap (born_by c.group) (sealed_some t h (live_block h.stage live) (let low = group_low in omega (arith, early, low)) (ap (is_freed_by t) live))
      ∙ ap (λ b. if b then Some (record h { stage = Live }) else None) (low_is h.birth c.group early)))
    where
      low_is : (a b : ℕ) → a ≤ b → nat_le a b ≡ true
      low_is a b low = grind (arith, nat_tests, low)

  -- and such a one is live
  pub born_live : (m : ℕ) (k : Key) → IsSome (born_upto c.group (sealed_at t blocks) m k) → (h : Held) × (blocks m k ≡ Some h) × (h.stage ≡ Live) × (h.birth ≤ c.group)
  born_live m k some =
      let z = born_some c.group (sealed_at t blocks m k) some in
      let y = sealed_held t (blocks m k) z.0 z.1 in
      let birth : z.0.birth ≡ y.h.birth = ap (λ (h : Held). h.birth) y.is in
      let early = z.2 in
      (y.h, y.found, live y.h y.found y.block y.stays, omega (arith, birth, early))
    where
      live : (h : Held) → blocks m k ≡ Some h → is_block h.stage ≡ true → is_freed_by t h.stage ≡ false → h.stage ≡ Live
      live h found block stays = elim (stages h.stage block) [
        | inl is ↦ is
        | inr freed ↦
            let early = (floor_top rack area pool x r k.object).freed m k h freed.0 found refl freed.1 in
            let gone : true ≡ false = sym (low_is freed.0 t early) ∙ (sym (ap (is_freed_by t) freed.1) ∙ stays) in
            absurd (cc)
      ]
        where
          low_is : (a b : ℕ) → a ≤ b → nat_le a b ≡ true
          low_is a b low = grind (arith, nat_tests, low)

  -- ---- pointers of blocks

  -- a live block of a shard
  pub live_held : (m : ℕ) (shard : Shard R A) (p : Pointer) → slice_get pool.metaslabs.shards.items m ≡ Some shard → IsLive shard p → (p.metaslab ≡ m) × (blocks m (key_of p) ≡ Some (held_at (staged Live p)))
  live_held m shard p there live =
      let within = slice_get_within pool.metaslabs.shards.items m shard there in
      let same = r.stands.shards in
      let y = present x.metaslabs m (omega (arith, within, same)) in
      let is = r.stands.each m shard y.0 there y.1 in
      (is.valid.here.each p.first (staged Live p) live ∙ ap (λ (q : Part). q.number) is.part_is, blocks_at x.metaslabs m y.0 (key_of p) y.1 ∙ held_by shard y.0.world p is.stands.is_in live)

  -- and the other way round
  pub held_live : (m : ℕ) (k : Key) (h : Held) → blocks m k ≡ Some h → h.stage ≡ Live → (shard : Shard R A) × (p : Pointer) × (slice_get pool.metaslabs.shards.items m ≡ Some shard) × IsLive shard p × (key_of p ≡ k) × (held_at (staged Live p) ≡ h)
  held_live m k h there live =
      let y = metaslab_at x.metaslabs m k h there in
      let within = slice_get_within x.metaslabs m y.0 y.1 in
      let same = r.stands.shards in
      let shard = present pool.metaslabs.shards.items m (omega (arith, within, same)) in
      let is = r.stands.each m shard.0 y.0 shard.1 y.1 in
      let e = held_entry shard.0.entries k h (sym (is.stands.is_in.held k) ∙ (sym (blocks_at x.metaslabs m y.0 k y.1) ∙ there)) in
      let stage : e.e.stage ≡ Live = ap (λ (z : Held). z.stage) e.held_is ∙ live in
      let same_held : held_at (staged Live e.e.pointer) ≡ h = ap (λ s. held_at (staged s e.e.pointer)) (sym stage) ∙ e.held_is in
      let at : h.first ≡ e.e.pointer.first = ap (λ (z : Held). z.first) (sym same_held) in
      (shard.0, e.e.pointer, shard.1, ap (entry_at shard.0.entries) (sym at) ∙ (e.there ∙ ap (λ s. Some (staged s e.e.pointer)) stage), e.key_is, same_held)

  -- two blocks of an object that are the checkpoint's are one
  pub born_once : (m n : ℕ) (p q : Pointer) → p.metaslab ≡ m → q.metaslab ≡ n → blocks m (key_of p) ≡ Some (held_at (staged Live p)) → blocks n (key_of q) ≡ Some (held_at (staged Live q)) → p.birth ≤ c.group → q.birth ≤ c.group
      → p.object ≡ q.object → q ≡ p
  born_once m n p q at_m at_n there_p there_q early_p early_q same =
      let one = has.one p.object m n (key_of p) (key_of q) refl (sym same) (born_there m (key_of p) (held_at (staged Live p)) there_p refl early_p) (born_there n (key_of q) (held_at (staged Live q)) there_q refl early_q) in
      let own : blocks m (key_of p) ≡ Some (held_at (staged Live q)) = ap (λ j. blocks j (key_of p)) one.0 ∙ (ap (blocks n) one.1 ∙ there_q) in
      same_pointer p q (sym one.1) (some_of (blocks m (key_of p)) (held_at (staged Live q)) (held_at (staged Live p)) own there_p) (at_n ∙ (sym one.0 ∙ sym at_m))

  module _ (table : ℕ → Option Pointer) (newest : AreNewestBorn pool.metaslabs.shards.items c.group table) where
    -- the table leads to each of them
    leads_born : (m : ℕ) (shard : Shard R A) (p : Pointer) → slice_get pool.metaslabs.shards.items m ≡ Some shard → IsLive shard p → p.birth ≤ c.group → table p.object ≡ Some p
    leads_born m shard p there live early =
        let z = newest.known m shard p there (record { live = live; upto = early }) in
        let q = newest.pointers p.object z.0 z.1 in
        let own = live_held m shard p there live in
        let other = live_held q.1.0 q.1.1 z.0 q.1.2 q.1.3.live in
        z.1 ∙ ap Some (born_once m q.1.0 p z.0 own.0 other.0 own.1 other.1 early q.1.3.upto (sym q.0))

    pub born_test : IsTestOf (is_younger c) table blocks
    born_test = record {
      others = λ m p here there other. elim (bool_cases (nat_lt c.group p.birth)) [
        | inl later ↦ later
        | inr not ↦
            let z = held_live m (key_of p) (held_at (staged Live p)) there refl in
            let own = live_held m z.0 z.1 z.2 z.3 in
            let same : z.1 ≡ p = same_pointer p z.1 z.4 z.5 (own.0 ∙ sym here) in
            let live : IsLive z.0 p = subst (IsLive z.0) same z.3 in
            absurd (other (leads_born m z.0 p z.2 live (younger_not c.group p.birth not)))
      ];
      own = λ m p here there leads. (let q = newest.pointers p.object p leads in not_younger c.group p.birth q.1.3.upto);
    }

    -- ---- what the objects have

    -- what the checkpoint's group kept of an object is the write of the block to which the table leads
    points_back : (o : ℕ) (p : Option Pointer) (w : Option Write) → table o ≡ p → kept c.group x.store.changes o ≡ w → SaysOf (born_upto c.group (sealed_at t blocks)) o w → PointsTo pool.metaslabs.shards.items p w
    points_back o None None leads is says = tt
    points_back o None (Some w) leads is says =
        let b = born_live w.metaslab (key_in w) says.there in
        let z = held_live w.metaslab (key_in w) b.0 b.1 b.2 in
        let birth : z.1.birth ≡ b.0.birth = ap (λ (h : Held). h.birth) z.5 in
        let early = b.3 in
        let object : z.1.object ≡ o = ap (λ (k : Key). k.object) z.4 ∙ says.object_is in
        let there = leads_born w.metaslab z.0 z.1 z.2 z.3 (omega (arith, birth, early)) in
        absurd (none_some (table o) z.1 leads (sym (ap table object) ∙ there))
    points_back o (Some p) None leads is says =
        let q = newest.pointers o p leads in
        let own = live_held q.1.0 q.1.1 p q.1.2 q.1.3.live in
        let some = born_there q.1.0 (key_of p) (held_at (staged Live p)) own.1 refl q.1.3.upto in
        let z = sealing.some_of (born_upto c.group (sealed_at t blocks) q.1.0 (key_of p)) some in
        absurd (none_some (born_upto c.group (sealed_at t blocks) q.1.0 (key_of p)) z.0 (says q.1.0 (key_of p) q.0) z.1)
    points_back o (Some p) (Some w) leads is says =
        let q = newest.pointers o p leads in
        let own = live_held q.1.0 q.1.1 p q.1.2 q.1.3.live in
        let some = born_there q.1.0 (key_of p) (held_at (staged Live p)) own.1 refl q.1.3.upto in
        let one = has.one o q.1.0 w.metaslab (key_of p) (key_in w) q.0 says.object_is some says.there in
        let b = r.stands.holds.stores.only q.1.0 (key_of p) (held_at (staged Live p)) own.1 refl in
        let last : write_by x.store.changes (key_of p) ≡ Some w = ap (write_by x.store.changes) one.1 ∙ has.last o w is in
        let same : b.0 ≡ w = some_of (write_by x.store.changes (key_of p)) b.0 w b.1 last in
        let of : IsBlockOf sha256 w (held_at (staged Live p)) = subst (λ v. IsBlockOf sha256 v (held_at (staged Live p))) same b.3 in
        record {
          object_is = ap (λ (k : Key). k.object) one.1;
          seq_is = ap (λ (k : Key). k.seq) one.1;
          metaslab_is = own.0 ∙ one.0;
          birth_is = of.birth;
          len_is = of.len;
          digest_is = of.digest_is;
          shard = q.1.1;
          there = ap (slice_get pool.metaslabs.shards.items) own.0 ∙ q.1.2;
          live = q.1.3.live;
        }

    last_back : (o : ℕ) (w : Option Write) (m : ℕ) (k : Key) → k.object ≡ o → IsSome (born_upto c.group (sealed_at t blocks) m k) → SaysOf (born_upto c.group (sealed_at t blocks)) o w → IsLastAt m k w
    last_back o None m k own some says =
        let z = sealing.some_of (born_upto c.group (sealed_at t blocks) m k) some in
        absurd (none_some (born_upto c.group (sealed_at t blocks) m k) z.0 (says m k own) z.1)
    last_back o (Some w) m k own some says = (let one = has.one o m w.metaslab k (key_in w) own says.object_is some says.there in (sym one.0, sym one.1))

    -- ---- the whole

    abbrev pub group : ℕ
    group = x.committed + 1

    abbrev pub back_store : Store
    back_store = record { changes = backs c.group group x.store.changes ++ x.store.changes; marks = GivenUp group ∷ x.store.marks; seq = x.store.seq; floor = max group x.store.floor }

    abbrev pub is_back : IsRewound c.group group x.store.changes back_store.changes
    is_back = rewound_by c.group group x.store.changes

    pub goes_back : x.store.floor ≤ x.committed + 1 → c.group ≤ x.committed → MayForget rack area pool x table (is_younger c) back_store
    goes_back floor_low early = record {
      told = born_test;
      marks = refl;
      seq = refl;
      floor = refl;
      stores = λ new frees. rewound sha256 x.committed group x.store.changes back_store.changes x.store.marks c blocks new r.stands.holds.stores check (omega arith) early floor_at
          (marked_later (max x.store.floor (x.committed + 1)) group x.store.marks (omega (arith, floor_low)) r.stands.groups.marked) frees is_back;
      writes = λ k. writes_stay c.group group x.store.changes (backs c.group group x.store.changes) k (backs_go c.group group x.store.changes x.store.changes);
      changed = λ object. groups_upto c.group group x.store.changes object (floor_at object).changed;
      only = λ m k h there live not.
          subst (IsLastAt m k) (sym (is_back.now k.object)) (last_back k.object (kept c.group x.store.changes k.object) m k refl (born_there m k h there live (younger_not c.group h.birth not)) (has.says k.object));
      objects = λ object. subst (PointsTo pool.metaslabs.shards.items (table object)) (sym (is_back.now object)) (points_back object (table object) (kept c.group x.store.changes object) refl refl (has.says object));
    }
      where
        floor_at : (o : ℕ) → IsFloor x.store.changes blocks o group
        floor_at o = floor_up x.store.changes blocks o x.store.floor group (r.stands.holds.floors o) floor_low

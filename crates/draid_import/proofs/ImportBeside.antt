-- Of the state that an import finds the older blocks are dropped that the checkpoint keeps.
use Rattle.std.proofs.Common.{arith, ◌≡◌, ◌≢◌, ◌+◌, ◌<◌, ◌≤◌, ◌∙◌, ◌⊎◌, inl, inr, ℕ, true, false, List, [], ◌∷◌, Option, Some, None, length, refl, sym, ap, subst, ◌==◌, if◌then◌else◌}
use Rattle.std.specs.Prelude.{◌↔◌, All, Contains, IsSome, option_map, slice_get}
use Rattle.std.proofs.lemmas.Bool.{cases_eq}
use Rattle.std.proofs.lemmas.Bool.Decides.{nat_tests}
use Rattle.std.proofs.lemmas.List.Elements.{All-cons, All-head, All-nil, All-tail}
use Rattle.std.proofs.lemmas.Option.{slice_get-get_or, slice_get_within}
use Rattle.sha2.specs.Sha256.{sha256}
use Rattle.draid_names.specs.declared.pointer.Pointer.{Pointer}
use Rattle.draid_rack.specs.declared.Rack as racks
use Rattle.draid_area.specs.declared.Area as areas
use Rattle.draid_machine.specs.declared.names.Held.{Held}
use Rattle.draid_machine.specs.declared.names.Key.{Key}
use Rattle.draid_machine.specs.declared.names.Stage.TheVariants as stage
use Rattle.draid_machine.proofs.Small.{absurd_test, none_some, some_injective}
use Rattle.draid_objects.specs.Blocks.{Blocks, SaysOf}
use Rattle.draid_objects.specs.Changes as changes
use Rattle.draid_objects.specs.Changes.{Write, write_by, write_of}
use Rattle.draid_objects.specs.Marks.{Check, Dropped, GivenUp, Made, Mark, check_by, drops_in, is_dropped, mark_group}
use Rattle.draid_objects.specs.Stores.{AreMarkedUpto, IsFloor, Stores}
use Rattle.draid_objects.proofs.Checking.{count_kept, count_undropped}
use Rattle.draid_objects.proofs.Sealing.{is_some_of, live_block, says_same}
use Rattle.draid_objects.proofs.Sealing as sealing
use Rattle.draid_record.specs.Checks.{CheckTold, IsCheck, most_drops}
use Rattle.draid_record.specs.declared.checks.Dropped.{Dropped as Block}
use Rattle.draid_segments.specs.Segments.{Pieces}
use Rattle.draid_entries.specs.Maps.{held_at, key_of, staged}
use Rattle.draid_shard.specs.States.{IsIn}
use Rattle.draid_shard.specs.declared.shard.Shard.{Shard}
use Rattle.draid_uber.specs.Points.{point_group}
use Rattle.draid_found.specs.Drops.{AreNewestBeside, HaveBorn, HaveNamed, key_in}
use Rattle.draid_found.specs.Older.{HaveOlder, ListsOlder}
use Rattle.draid_session.specs.Opening.{DropsOlder}
use Rattle.draid_session.specs.Points.{IsPointOf, KeepsBirth}
use Rattle.draid_session.specs.State.{Metaslab, State}
use Rattle.draid_pool.specs.Objects.{HoldsObjects, blocks_of}
use Rattle.draid_pool.specs.Ubers.{point_told}
use Rattle.draid_pool.proofs.Lists.{some_of}
use Rattle.draid_import.specs.Imported.{IsNewestOf, SaysObjects, counted_of}
use Rattle.draid_import.specs.Points.{AreOlder}
use Rattle.draid_import.proofs.ImportDrops.{DropsThose, IsAmong, MayDrop, Tells, among, check_dropped, dropped_all, dropped_marks, placed_among, stored_dropped, told_check}
use Rattle.draid_import.proofs.ImportFound.{held_there}
use Rattle.draid_import.proofs.ImportNewest.{Found, block_entered, block_led, found, newest_of, not_true}

-- ---- the checkpoint of marks

pub no_group : (marks : List Mark) → check_by marks ≡ None → (point_told marks).group ≡ 0
no_group [] none = refl
no_group (Made group ∷ marks) none = absurd (none_some (check_by (Made group ∷ marks)) (record { group = group; dropped = λ k. false }) none refl)
no_group (Dropped key group ∷ marks) none = no_group marks (by (check_by marks) none)
  where
    by : (o : Option Check) → option_map (drops_in key) o ≡ None → o ≡ None
    by None is = refl
    by (Some c) is = absurd (none_some None (drops_in key c) refl (sym is))
no_group (GivenUp group ∷ marks) none = refl

some_group : (marks : List Mark) (c : Check) → All (λ m. 1 ≤ mark_group m) marks → check_by marks ≡ Some c → 1 ≤ c.group
some_group [] c some is = absurd (none_some None c refl is)
some_group (Made group ∷ marks) c some is =
    let low = All-head (λ m. 1 ≤ mark_group m) (Made group) marks some in
    let same = ap (λ (z : Check). z.group) (some_injective (record { group = group; dropped = λ k. false }) c is) in
    omega (arith, low, same)
some_group (Dropped key group ∷ marks) c some is = by (λ b. some_group marks b (All-tail (λ m. 1 ≤ mark_group m) (Dropped key group) marks some)) (check_by marks) refl is
  where
    by : ((b : Check) → check_by marks ≡ Some b → 1 ≤ b.group) → (o : Option Check) → check_by marks ≡ o → option_map (drops_in key) o ≡ Some c → 1 ≤ c.group
    by rest None none is = absurd (none_some None c refl is)
    by rest (Some b) own is =
        let low = rest b own in
        let same = ap (λ (z : Check). z.group) (some_injective (drops_in key b) c is) in
        omega (arith, low, same)
some_group (GivenUp group ∷ marks) c some is = absurd (none_some None c refl is)

-- ---- names

in_list : (key : Key) (ds : List Block) → IsAmong key ds → Contains ds (record { object = key.object; seq = key.seq })
in_list key ds is =
    let z = placed_among key ds is in
    let inside = slice_get_within ds z.0 (record { object = key.object; seq = key.seq }) z.1 in
    (z.0, inside, some_injective _ _ (sym (slice_get-get_or ds z.0 (record { object = key.object; seq = key.seq }) inside) ∙ z.1))

of_list : (key : Key) (ds : List Block) → Contains ds (record { object = key.object; seq = key.seq }) → IsAmong key ds
of_list key ds (i, low, is) = among ds i (record { object = key.object; seq = key.seq }) (slice_get-get_or ds i (record { object = key.object; seq = key.seq }) low ∙ ap Some is)

pub at_list : (ds : List Block) (d : Block) → Contains ds d → (k : ℕ) × (slice_get ds k ≡ Some d)
at_list ds d (i, low, is) = (i, slice_get-get_or ds i d low ∙ ap Some is)

is_among : (ds : List Block) (k : ℕ) (d : Block) → slice_get ds k ≡ Some d → Contains ds d
is_among ds k d there = in_list (key_in d) ds (among ds k d there)

pub nothing : {X : Type 0} (xs : List X) → length xs ≤ 0 → xs ≡ []
nothing [] few = refl
nothing (x ∷ xs) few = absurd (omega (arith, few))

pub none_in : (ds : List Block) (d : Block) → ds ≡ [] → Contains ds d → ⊥
none_in ds d none has = (let low = has.1 in let is_zero = ap (λ xs. length xs) none in omega (arith, low, is_zero))

-- ---- the state

module _ {R A : Type 0} (rack : racks.Ghosts R) (area : areas.Ghosts A) (x : State) (pieces : ℕ → Pieces) (shards : List (Shard R A)) (many : length shards ≡ length x.metaslabs)
    (in_state : (m : ℕ) (shard : Shard R A) (y : Metaslab) → slice_get shards m ≡ Some shard → slice_get x.metaslabs m ≡ Some y → IsIn shard y.world)
    (says : SaysObjects x) (holds : HoldsObjects x.geometry x.committed x.store (blocks_of x.metaslabs) pieces) (live : (m : ℕ) (k : Key) (h : Held) → blocks_of x.metaslabs m k ≡ Some h → h.stage ≡ stage.Live)
    (group : ℕ) (floor_is : x.store.floor ≡ group + 1) (low : AreMarkedUpto group x.store.marks)
    (newest : ℕ → Option Pointer) (value : CheckTold) (value_is : value ≡ point_told x.store.marks) (range : IsCheck group value) (have : HaveNamed shards value.group value.drops) (beside : AreNewestBeside shards value.drops newest)
    (older : List Block) (are : AreOlder shards newest value older) where
  abbrev blocks : Blocks
  blocks = blocks_of x.metaslabs

  -- what was dropped before is what the record names
  named : (k : Key) → (is_dropped (check_by x.store.marks) k ≡ true) ↔ Contains value.drops (record { object = k.object; seq = k.seq })
  named k = by (check_by x.store.marks) refl
    where
      by : (o : Option Check) → check_by x.store.marks ≡ o → (is_dropped o k ≡ true) ↔ Contains value.drops (record { object = k.object; seq = k.seq })
      by None none = (
        (λ has. absurd (cc)),
        (λ has.
            (let is_zero = ap (λ (v : CheckTold). v.group) value_is ∙ no_group x.store.marks none in
            let few = subst (λ n. length value.drops ≤ most_drops n) is_zero range.few in
            absurd (none_in value.drops _ (nothing value.drops few) has))),
      )
      by (Some c) is =
          let t = subst (λ v. Tells v c) (sym value_is) (told_check x.store.marks c is) in
          ((λ has. in_list k value.drops ((t.dropped k).0 has)), (λ has. (t.dropped k).1 (of_list k value.drops has)))

  newest_before : IsNewestOf (counted_of x) newest
  newest_before = newest_of rack area shards x many in_state newest value.drops (check_by x.store.marks) named beside

  -- a key is of one metaslab
  one_place : (m o : ℕ) (k : Key) (g h : Held) → blocks m k ≡ Some g → blocks o k ≡ Some h → g ≡ h
  one_place m o k g h a b =
      let v = holds.stores.only m k g a (live_block g.stage (live m k g a)) in
      let w = holds.stores.only o k h b (live_block h.stage (live o k h b)) in
      let equal : v.0 ≡ w.0 = some_of (write_by x.store.changes k) v.0 w.0 v.1 w.1 in
      let same : m ≡ o = sym v.2 ∙ (ap (λ (z : Write). z.metaslab) equal ∙ w.2) in
      some_of (blocks o k) g h (ap (λ n. blocks n k) (sym same) ∙ a) b

  -- the block that a record names was born up to the checkpoint
  named_born : (m : ℕ) (k : Key) (h : Held) → blocks m k ≡ Some h → Contains value.drops (record { object = k.object; seq = k.seq }) → h.birth ≤ value.group
  named_born m k h is has =
      let z = at_list value.drops (record { object = k.object; seq = k.seq }) has in
      let b : HaveBorn shards value.group k = have z.0 (record { object = k.object; seq = k.seq }) z.1 in
      let there = block_entered rack area shards x many in_state b.m b.shard b.has.block.first b.has.block.e b.there b.has.block.there in
      let same = one_place b.m m k (held_at b.has.block.e) h (subst (λ (j : Key). blocks b.m j ≡ Some (held_at b.has.block.e)) b.has.block.key_is there) is in
      let born = b.has.born in
      let birth = ap (λ (i : Held). i.birth) same in
      omega (arith, born, birth)

  -- ---- where there is no checkpoint

  module _ (none : check_by x.store.marks ≡ None) where
    zero_group : value.group ≡ 0
    zero_group = ap (λ (v : CheckTold). v.group) value_is ∙ no_group x.store.marks none

    pub none_older : older ≡ []
    none_older = elim are [
      | inl z ↦ z.1
      | inr z ↦ (let some = z.0 in let is_zero = zero_group in absurd (omega (arith, some, is_zero)))
    ]

  -- ---- where there is one

  module _ (c : Check) (is : check_by x.store.marks ≡ Some c) where
    own_group : value.group ≡ c.group
    own_group = (subst (λ v. Tells v c) (sym value_is) (told_check x.store.marks c is)).group_is

    lists : ListsOlder shards newest value.drops value.group older
    lists = elim are [
      | inl z ↦ (let some = some_group x.store.marks c holds.positive is in let is_zero = z.0 in let same = own_group in absurd (omega (arith, some, is_zero, same)))
      | inr z ↦ z.1
    ]

    then_check : (b : Check) × (check_by (dropped_marks (group + 1) older x.store.marks) ≡ Some b) × DropsThose c b older
    then_check = check_dropped (group + 1) older x.store.marks c is

    abbrev b : Check
    b = then_check.0

    dropped_now : (k : Key) → b.dropped k ≡ true → Contains value.drops (record { object = k.object; seq = k.seq }) ⊎ Contains older (record { object = k.object; seq = k.seq })
    dropped_now k has = elim ((then_check.2.dropped k).0 has) [
      | inl was ↦ inl ((named k).0 (ap (λ o. is_dropped o k) is ∙ was))
      | inr own ↦ inr (in_list k older own)
    ]

    dropped_then : (k : Key) → Contains value.drops (record { object = k.object; seq = k.seq }) ⊎ Contains older (record { object = k.object; seq = k.seq }) → b.dropped k ≡ true
    dropped_then k (inl has) = (then_check.2.dropped k).1 (inl (ap (λ o. is_dropped o k) (sym is) ∙ (named k).1 has))
    dropped_then k (inr has) = (then_check.2.dropped k).1 (inr (of_list k older has))

    -- an older block, and the newest of its object
    pub record IsOld (k : Key) : Type 0 where
      pub m : ℕ
      pub h : Held
      pub there : blocks m k ≡ Some h
      pub born : h.birth ≤ value.group
      pub counts : is_dropped (check_by x.store.marks) k ≡ false
      pub p : Pointer
      pub newest_is : newest k.object ≡ Some p
      pub less : k.seq < p.seq

    old_by : (d : Block) → Contains older d → IsOld (key_in d)
    old_by d has =
        let o : HaveOlder shards newest value.group (key_in d) = lists.are d has in
        let e = o.has.e in
        let there = subst (λ (j : Key). blocks o.m j ≡ Some (held_at e)) o.has.key_is (block_entered rack area shards x many in_state o.m o.shard o.has.first e o.there o.has.there) in
        let out : is_dropped (check_by x.store.marks) (key_in d) ≡ false = not_true (is_dropped (check_by x.store.marks) (key_in d)) (λ is_so. lists.apart d has ((named (key_in d)).0 is_so)) in
        let q = newest_before.greatest o.m (key_in d) (held_at e) (count_kept (check_by x.store.marks) blocks o.m (key_in d) out ∙ there) in
        let object = ap (λ (k : Key). k.object) o.has.key_is in
        let seq = ap (λ (k : Key). k.seq) o.has.key_is in
        let up = q.2 in
        record {
          m = o.m;
          h = held_at e;
          there = there;
          born = o.has.born;
          counts = out;
          p = q.0;
          newest_is = q.1;
          less = elim (cases_eq q.0.seq d.seq) [
            | inl same ↦ absurd (o.has.other (q.0, ap newest object ∙ q.1, same ∙ sym seq))
            | inr other ↦ omega (arith, up, other)
          ];
        }

    -- the newest block of an object isn't dropped
    newest_stays : (object : ℕ) (p : Pointer) → newest object ≡ Some p → b.dropped (key_of p) ≡ false
    newest_stays object p at = not_true (b.dropped (key_of p)) (λ is_so. elim (dropped_now (key_of p) is_so) [
      | inl has ↦ (beside.pointers object p at).1 has
      | inr has ↦
          let o = lists.are (record { object = p.object; seq = p.seq }) has in
          let own = (beside.pointers object p at).0.object_is in
          o.has.other (p, ap newest (ap (λ (k : Key). k.object) o.has.key_is ∙ own) ∙ at, sym (ap (λ (k : Key). k.seq) o.has.key_is))
    ])

    may_drop : (d : Block) → Contains older d → MayDrop x.store.changes blocks c.group (key_in d)
    may_drop d has = record {
      m = o.m;
      held = o.h;
      there = o.there;
      live = live o.m (key_in d) o.h o.there;
      born = (let born = o.born in let same = own_group in omega (arith, born, same));
      w = last.0;
      last = last.1;
      other = other;
    }
      where
        o : IsOld (key_in d)
        o = old_by d has

        last : (w : Write) × (write_of x.store.changes d.object ≡ Some w)
        last = sealing.some_of (write_of x.store.changes d.object) (holds.stores.live o.m (key_in d) o.h o.there (live o.m (key_in d) o.h o.there) o.counts)

        p_there : blocks o.p.metaslab (key_of o.p) ≡ Some (held_at (staged stage.Live o.p))
        p_there = block_led rack area shards x many in_state d.object o.p (beside.pointers d.object o.p o.newest_is).0

        p_counts : is_dropped (check_by x.store.marks) (key_of o.p) ≡ false
        p_counts = not_true (is_dropped (check_by x.store.marks) (key_of o.p)) (λ is_so. (beside.pointers d.object o.p o.newest_is).1 ((named (key_of o.p)).0 is_so))

        other : changes.key_of last.0 ≢ key_in d
        other same =
            let said : SaysOf (counted_of x) d.object (Some last.0) = subst (SaysOf (counted_of x) d.object) last.1 (says d.object) in
            let seq : last.0.seq ≡ d.seq = ap (λ (k : Key). k.seq) same in
            let less = o.less in
            elim (said.others o.p.metaslab (key_of o.p) (beside.pointers d.object o.p o.newest_is).0.object_is
            (is_some_of (counted_of x o.p.metaslab (key_of o.p)) (held_at (staged stage.Live o.p)) (count_kept (check_by x.store.marks) blocks o.p.metaslab (key_of o.p) p_counts ∙ p_there))) [
              | inl z ↦ (let later : o.p.seq ≡ last.0.seq = ap (λ (k : Key). k.seq) z.1 in absurd (omega (arith, seq, less, later)))
              | inr fewer ↦ absurd (omega (arith, seq, less, fewer))
            ]

  -- ---- either way

  abbrev pub then_marks : List Mark
  then_marks = dropped_marks (group + 1) older x.store.marks

  -- the state with what was dropped
  abbrev pub then_state : State
  then_state = record x { store = record x.store { marks = then_marks } }

  same_marks : older ≡ [] → then_marks ≡ x.store.marks
  same_marks none = ap (λ ds. dropped_marks (group + 1) ds x.store.marks) none

  upto_next : AreMarkedUpto (group + 1) x.store.marks
  upto_next = weaker low
    where
      weaker : AreMarkedUpto group x.store.marks → AreMarkedUpto (group + 1) x.store.marks
      weaker all = λ k d lt. (let one = all k d lt in omega (arith, one))

  stores_then : Stores sha256 x.committed x.store.changes then_marks blocks
  stores_then = by (check_by x.store.marks) refl
    where
      by : (o : Option Check) → check_by x.store.marks ≡ o → Stores sha256 x.committed x.store.changes then_marks blocks
      by None none = subst (λ ms. Stores sha256 x.committed x.store.changes ms blocks) (sym (same_marks (none_older none))) holds.stores
      by (Some c) is = stored_dropped sha256 x.committed (group + 1) c.group x.store.changes blocks
          (λ object. subst (IsFloor x.store.changes blocks object) floor_is (holds.floors object)) (let same = own_group c is in let upto = range.upto in omega (arith, same, upto)) older x.store.marks c is refl upto_next
          (λ k d there.
          (let has = is_among older k d there in
          let out = (old_by c is d has).counts in
          (may_drop c is d has, ap (λ o. is_dropped o (key_in d)) (sym is) ∙ out))) (lists c is).once holds.stores

  pub holds_then : HoldsObjects x.geometry x.committed then_state.store blocks pieces
  holds_then = record {
    stores = stores_then;
    floors = holds.floors;
    settled = holds.settled;
    numbered = holds.numbered;
    positive = dropped_all (group + 1) (λ m. 1 ≤ mark_group m) older x.store.marks (λ d. omega arith) holds.positive;
    bytes = holds.bytes;
  }

  -- what is dropped then was named or is older
  now_dropped : (k : Key) → is_dropped (check_by then_marks) k ≡ true → (is_dropped (check_by x.store.marks) k ≡ true) ⊎ Contains older (record { object = k.object; seq = k.seq })
  now_dropped k = by (check_by x.store.marks) refl
    where
      by : (o : Option Check) → check_by x.store.marks ≡ o → is_dropped (check_by then_marks) k ≡ true → (is_dropped (check_by x.store.marks) k ≡ true) ⊎ Contains older (record { object = k.object; seq = k.seq })
      by None none has = inl (ap (λ ms. is_dropped (check_by ms) k) (sym (same_marks (none_older none))) ∙ has)
      by (Some c) is has = elim ((((then_check c is).2).dropped k).0 (ap (λ o. is_dropped o k) (sym (then_check c is).1) ∙ has)) [
        | inl was ↦ inl (ap (λ o. is_dropped o k) is ∙ was)
        | inr own ↦ inr (in_list k older own)
      ]

  was_dropped : (k : Key) → is_dropped (check_by x.store.marks) k ≡ true → is_dropped (check_by then_marks) k ≡ true
  was_dropped k = by (check_by x.store.marks) refl
    where
      by : (o : Option Check) → check_by x.store.marks ≡ o → is_dropped (check_by x.store.marks) k ≡ true → is_dropped (check_by then_marks) k ≡ true
      by None none has = ap (λ ms. is_dropped (check_by ms) k) (same_marks (none_older none)) ∙ has
      by (Some c) is has = ap (λ o. is_dropped o k) (then_check c is).1 ∙ (((then_check c is).2).dropped k).1 (inl (ap (λ o. is_dropped o k) (sym is) ∙ has))

  -- the newest isn't dropped
  stays_then : (object : ℕ) (p : Pointer) → newest object ≡ Some p → is_dropped (check_by then_marks) (key_of p) ≡ false
  stays_then object p at = by (check_by x.store.marks) refl
    where
      by : (o : Option Check) → check_by x.store.marks ≡ o → is_dropped (check_by then_marks) (key_of p) ≡ false
      by None none = ap (λ ms. is_dropped (check_by ms) (key_of p)) (same_marks (none_older none)) ∙ ap (λ o. is_dropped o (key_of p)) none
      by (Some c) is = ap (λ o. is_dropped o (key_of p)) (then_check c is).1 ∙ newest_stays c is object p at

  pub newest_then : IsNewestOf (counted_of then_state) newest
  newest_then = record {
    own = newest_before.own;
    there = λ object p at. count_kept (check_by then_marks) blocks p.metaslab (key_of p) (stays_then object p at) ∙ block_led rack area shards x many in_state object p (beside.pointers object p at).0;
    greatest = λ m k h there.
        (let counts = count_undropped (check_by then_marks) blocks m k (is_some_of (counted_of then_state m k) h there) in
        let was : is_dropped (check_by x.store.marks) k ≡ false = not_true (is_dropped (check_by x.store.marks) k) (λ is_so. absurd_test (is_dropped (check_by then_marks) k) (was_dropped k is_so) counts) in
        newest_before.greatest m k h (count_kept (check_by x.store.marks) blocks m k was ∙ (sym (count_kept (check_by then_marks) blocks m k counts) ∙ there)));
  }

  -- what the blocks say that count is what befell the objects
  pub says_then : SaysObjects then_state
  says_then object = by (write_of x.store.changes object) refl (says object)
    where
      fewer : (m : ℕ) (k : Key) → IsSome (counted_of then_state m k) → IsSome (counted_of x m k)
      fewer m k some =
          let h = sealing.some_of (counted_of then_state m k) some in
          let counts = count_undropped (check_by then_marks) blocks m k some in
          let was : is_dropped (check_by x.store.marks) k ≡ false = not_true (is_dropped (check_by x.store.marks) k) (λ is_so. absurd_test (is_dropped (check_by then_marks) k) (was_dropped k is_so) counts) in
          is_some_of (counted_of x m k) h.0 (count_kept (check_by x.store.marks) blocks m k was ∙ (sym (count_kept (check_by then_marks) blocks m k counts) ∙ h.1))

      empty : (m : ℕ) (k : Key) → counted_of x m k ≡ None → (o : Option Held) → counted_of then_state m k ≡ o → o ≡ None
      empty m k none None at = refl
      empty m k none (Some h) at = absurd (let z = sealing.some_of (counted_of x m k) (fewer m k (is_some_of (counted_of then_state m k) h at)) in none_some (counted_of x m k) z.0 none z.1)

      by : (o : Option Write) → write_of x.store.changes object ≡ o → SaysOf (counted_of x) object o → SaysOf (counted_of then_state) object o
      by None at said = λ m k own. empty m k (said m k own) (counted_of then_state m k) refl
      by (Some w) at said = record {
        object_is = said.object_is;
        there = last_there;
        others = λ m k own some. said.others m k own (fewer m k some);
      }
        where
          h : (h : Held) × (counted_of x w.metaslab (changes.key_of w) ≡ Some h)
          h = sealing.some_of (counted_of x w.metaslab (changes.key_of w)) said.there

          w_counts : is_dropped (check_by x.store.marks) (changes.key_of w) ≡ false
          w_counts = count_undropped (check_by x.store.marks) blocks w.metaslab (changes.key_of w) said.there

          -- it is the newest of its object, which isn't dropped
          p : (p : Pointer) × (newest w.object ≡ Some p) × (w.seq ≤ p.seq)
          p = newest_before.greatest w.metaslab (changes.key_of w) h.0 h.1

          key : key_of p.0 ≡ changes.key_of w
          key = elim (said.others p.0.metaslab (key_of p.0) (newest_before.own w.object p.0 p.1 ∙ said.object_is) (is_some_of (counted_of x p.0.metaslab (key_of p.0)) (held_at (staged stage.Live p.0)) (newest_before.there w.object p.0 p.1))) [
            | inl z ↦ z.1
            | inr less ↦ (let up = p.2 in absurd (omega (arith, up, less)))
          ]

          last_there : IsSome (counted_of then_state w.metaslab (changes.key_of w))
          last_there = is_some_of (counted_of then_state w.metaslab (changes.key_of w)) h.0
              (count_kept (check_by then_marks) blocks w.metaslab (changes.key_of w) (ap (is_dropped (check_by then_marks)) (sym key) ∙ stays_then w.object p.0 p.1)
              ∙ (sym (count_kept (check_by x.store.marks) blocks w.metaslab (changes.key_of w) w_counts) ∙ h.1))

  -- ---- the checkpoint

  -- its group is that of the record
  keeps_group : (birth : ℕ) → KeepsBirth then_marks birth → (c : Check) × (check_by x.store.marks ≡ Some c) × (birth ≤ c.group)
  keeps_group birth keeps = by (check_by x.store.marks) refl
    where
      by : (o : Option Check) → check_by x.store.marks ≡ o → (c : Check) × (check_by x.store.marks ≡ Some c) × (birth ≤ c.group)
      by None none = absurd (none_some (check_by then_marks) keeps.0 (ap check_by (same_marks (none_older none)) ∙ none) keeps.1)
      by (Some c) is =
          let t = then_check c is in
          let one = ap (λ (z : Check). z.group) (some_injective keeps.0 t.0 (sym keeps.1 ∙ t.1)) in
          let same = t.2.group_is in
          let born = keeps.2 in
          (c, is, omega (arith, one, same, born))

  keeps_then : (c : Check) → check_by x.store.marks ≡ Some c → (birth : ℕ) → birth ≤ c.group → KeepsBirth then_marks birth
  keeps_then c is birth born = (let t = then_check c is in let same = t.2.group_is in (t.0, t.1, omega (arith, born, same)))

  pub point_is : IsPointOf then_marks (point_group value)
  point_is = by (check_by x.store.marks) refl
    where
      by : (o : Option Check) → check_by x.store.marks ≡ o → IsPointOf then_marks (point_group value)
      by None none =
          subst (IsPointOf then_marks) (sym (ap (λ n. if n == 0 then None else Some n) (zero_group none))) (ap check_by (same_marks (none_older none)) ∙ none)
      by (Some c) is =
          let t = then_check c is in
          let some = some_group x.store.marks c holds.positive is in
          let same = own_group c is in
          let not_zero : (value.group == 0) ≡ false = grind (arith, nat_tests, some, same) in
          subst (IsPointOf then_marks) (sym (ap (λ e. if e then None else Some value.group) not_zero)) (t.0, t.1, t.2.group_is ∙ sym same)

  -- what it keeps alone it keeps
  pub kept_then : (m : ℕ) (k : Key) (h : Held) → blocks m k ≡ Some h → is_dropped (check_by then_marks) k ≡ true → KeepsBirth then_marks h.birth
  kept_then m k h there is_so = by (check_by x.store.marks) refl
    where
      by : (o : Option Check) → check_by x.store.marks ≡ o → KeepsBirth then_marks h.birth
      by None none = absurd (absurd_test (is_dropped (check_by then_marks) k) is_so (ap (λ ms. is_dropped (check_by ms) k) (same_marks (none_older none)) ∙ ap (λ o. is_dropped o k) none))
      by (Some c) is = elim (now_dropped k is_so) [
        | inl was ↦ (let born = named_born m k h there ((named k).0 was) in let same = own_group c is in keeps_then c is h.birth (omega (arith, born, same)))
        | inr has ↦
            let o = old_by c is (record { object = k.object; seq = k.seq }) has in
            let birth = ap (λ (i : Held). i.birth) (one_place o.m m k o.h h o.there there) in
            let born = o.born in
            let same = own_group c is in
            keeps_then c is h.birth (omega (arith, born, birth, same))
      ]

  -- what it keeps it keeps alone, but for the newest blocks
  pub dropped_all_then : (m : ℕ) (k : Key) (h : Held) → blocks m k ≡ Some h → KeepsBirth then_marks h.birth → (is_dropped (check_by then_marks) k ≡ true) ⊎ ((p : Pointer) × (newest k.object ≡ Some p) × (key_of p ≡ k))
  dropped_all_then m k h there keeps = elim ((lists g.0 g.1).all m f.shard h.first f.entry.e f.at f.entry.there (let birth = ap (λ (i : Held). i.birth) f.entry.held_is in let born = g.2 in let same = own_group g.0 g.1 in omega (arith, birth, born, same))) [
    | inl own ↦
        let at : newest k.object ≡ Some own.0 = ap (λ (j : Key). newest j.object) (sym f.entry.key_is) ∙ own.1 in
        inr (
          own.0,
          at,
          λ i. record {
            object = (newest_before.own k.object own.0 at) i;
            seq = (own.2 ∙ ap (λ (j : Key). j.seq) f.entry.key_is) i;
          },
        )
    | inr named_or ↦ inl (ap (λ o. is_dropped o k) (then_check g.0 g.1).1 ∙ dropped_then g.0 g.1 k (elim named_or [
      | inl has ↦ inl (subst (λ (j : Key). Contains value.drops (record { object = j.object; seq = j.seq })) f.entry.key_is has)
      | inr has ↦ inr (subst (λ (j : Key). Contains older (record { object = j.object; seq = j.seq })) f.entry.key_is has)
    ]))
  ]
    where
      g : (c : Check) × (check_by x.store.marks ≡ Some c) × (h.birth ≤ c.group)
      g = keeps_group h.birth keeps

      f : Found rack area shards x many in_state m k h
      f = found rack area shards x many in_state m k h there

  -- each that was dropped is an older block that it keeps
  drops_one : (y : State) → y.metaslabs ≡ x.metaslabs → y.store.marks ≡ then_marks → (d : Block) → Contains older d → DropsOlder y group (Dropped (key_in d) (group + 1))
  drops_one y same_metaslabs same_then d has = by (check_by x.store.marks) refl
    where
      by : (o : Option Check) → check_by x.store.marks ≡ o → DropsOlder y group (Dropped (key_in d) (group + 1))
      by None none = absurd (none_in older d (none_older none) has)
      by (Some c) is = (
        refl,
        record {
          m = o.p.metaslab;
          y = z.0;
          later = key_of o.p;
          held = held_at (staged stage.Live o.p);
          there = ap (λ (ms : List Metaslab). slice_get ms o.p.metaslab) same_metaslabs ∙ z.1;
          found = z.2;
          same = (beside.pointers d.object o.p o.newest_is).0.object_is;
          greater = o.less;
          counts = ap (λ ms. is_dropped (check_by ms) (key_of o.p)) same_then ∙ stays_then d.object o.p o.newest_is;
        },
        (o.m, w.0, o.h, ap (λ (ms : List Metaslab). slice_get ms o.m) same_metaslabs ∙ w.1, w.2, subst (λ ms. KeepsBirth ms o.h.birth) (sym same_then) (keeps_then c is o.h.birth (let born = o.born in let same = own_group c is in omega (arith, born, same)))),
      )
        where
          o : IsOld c is (key_in d)
          o = old_by c is d has

          z : (y : Metaslab) × (slice_get x.metaslabs o.p.metaslab ≡ Some y) × (y.world.core.held (key_of o.p) ≡ Some (held_at (staged stage.Live o.p)))
          z = held_there x.metaslabs o.p.metaslab (key_of o.p) (held_at (staged stage.Live o.p)) (block_led rack area shards x many in_state d.object o.p (beside.pointers d.object o.p o.newest_is).0)

          w : (y : Metaslab) × (slice_get x.metaslabs o.m ≡ Some y) × (y.world.core.held (key_in d) ≡ Some o.h)
          w = held_there x.metaslabs o.m (key_in d) o.h o.there

  pub drops_are : (y : State) → y.metaslabs ≡ x.metaslabs → y.store.marks ≡ then_marks → All (DropsOlder y group) (dropped_marks (group + 1) older [])
  drops_are y same_metaslabs same_then = each older [] (λ d has. drops_one y same_metaslabs same_then d has) (All-nil (DropsOlder y group))
    where
      each : (ds : List Block) (marks : List Mark) → ((d : Block) → Contains ds d → DropsOlder y group (Dropped (key_in d) (group + 1))) → All (DropsOlder y group) marks → All (DropsOlder y group) (dropped_marks (group + 1) ds marks)
      each [] marks one all = all
      each (d ∷ ds) marks one all = each ds (Dropped (key_in d) (group + 1) ∷ marks) (λ e has. one e (in_list (key_in e) (d ∷ ds) (inr (of_list (key_in e) ds has))))
          (All-cons (DropsOlder y group) (Dropped (key_in d) (group + 1)) marks (one d (in_list (key_in d) (d ∷ ds) (inl refl))) all)

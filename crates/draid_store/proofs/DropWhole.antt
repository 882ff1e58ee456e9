-- A pool stays whole as a block is dropped to the checkpoint, and as an object gets a new pointer.
use Rattle.std.proofs.Common.{◌≡◌, ◌==◌, ◌<◌, ◌≤◌, ◌+◌, ◌⊎◌, ◌∷◌, ◌∙◌, [], inl, inr, ℕ, Bool, true, false, List, Option, Some, None, Result, Ok, Err, arith, ap, refl, sym, subst, length, if◌then◌else◌, cond}
use mathlib.Core.Logic.{dite}
use native.Mathlib.Decide.{ℕ_discrete}
use Rattle.std.specs.Prelude.{All, Contains, max, nat_eq, slice_get}
use Rattle.std.specs.HashMap.{get}
use Rattle.std.proofs.lemmas.Bool.Decides.{nat_tests}
use Rattle.std.proofs.lemmas.Bool.{true≢false}
use Rattle.std.proofs.lemmas.List.{length-append}
use Rattle.std.proofs.lemmas.List.Elements.{All-cons, All-contains, All-head, All-nil, All-push, All-tail, All-weaker, Contains-append_left, Contains-append_right, Contains-push}
use Rattle.draid_area.specs.declared.Area as areas
use Rattle.draid_checkpoint.specs.Check.{Drops, Point, holds_birth}
use Rattle.draid_checkpoint.specs.declared.check.DroppedIn.{DroppedIn}
use Rattle.draid_machine.proofs.Small.{bool_cases, key_refl, key_true}
use Rattle.draid_machine.specs.Names.{key_eq}
use Rattle.draid_machine.specs.declared.names.Key.{Key}
use Rattle.draid_machine.specs.declared.names.Stage.TheVariants.{Live}
use Rattle.draid_names.specs.declared.numbers.TheConstants.{LAST_NUMBER}
use Rattle.draid_names.specs.declared.pointer.Pointer.{Pointer}
use Rattle.draid_rack.specs.declared.Rack as racks
use Rattle.draid_entries.specs.Maps.{held_at, key_of, staged}
use Rattle.draid_shard.proofs.Held.{key_leads}
use Rattle.draid_shard.specs.declared.shard.Shard.{Shard}
use Rattle.draid_uber.specs.Points.{IsOther}
use Rattle.draid_uber.specs.Slots.{group_of}
use Rattle.draid_uber.specs.Uber as ubers
use Rattle.draid_uber.specs.Uber.{kept_of, point_of}
use Rattle.draid_uber.specs.declared.uber.Uber.{Uber}
use Rattle.draid_pool.specs.Whole.{IsPointer, IsWhole, PointFits}
use Rattle.draid_pool.specs.declared.own.Own.{Own}
use Rattle.draid_pool.specs.declared.pool.Pool.{Pool}
use Rattle.draid_pool.specs.Threads.{AllStay, IsWholeBy}
use Rattle.draid_pool.proofs.Lists.{some_of}
use Rattle.draid_pool.proofs.OwnedKnows.{all, left_in, table_in}
use Rattle.draid_pool.proofs.OwnedStands.{whole_left}
use Rattle.draid_pool.proofs.Nears.{near_kept}
use Rattle.draid_pool.proofs.Wholes.{open_low, put_elsewhere, put_here}
use Rattle.draid_store.proofs.FreeWhole.{near_open}
use Rattle.draid_store.specs.Freeing.{IsApart, IsWholeBeside}
use Rattle.draid_store.specs.Pointers.{TriesTake}
use Rattle.draid_store.specs.Storing.{ComesBack, IsNewPointer, StoreSetsTable, StoresNew}
use Rattle.draid_store.specs.declared.fault.FreeFault.{FreeFault}
use Rattle.draid_store.specs.declared.fault.FreeFault.TheVariants.{NoObject}
use Rattle.draid_store.proofs.Dropped.{DropsUber}

-- ---- names

abbrev IsAmong : ℕ → List ℕ → Type 0
IsAmong o [] = ⊥
IsAmong o (x ∷ xs) = (x ≡ o) ⊎ IsAmong o xs

all_among : (xs : List ℕ) → All (λ y. IsAmong y xs) xs
all_among [] = All-nil (λ y. IsAmong y [])
all_among (x ∷ xs) = All-cons (λ y. IsAmong y (x ∷ xs)) x xs (inl refl) (All-weaker (λ y. IsAmong y xs) (λ y. IsAmong y (x ∷ xs)) (λ y is. inr is) xs (all_among xs))

among : (o : ℕ) (xs : List ℕ) → Contains xs o → IsAmong o xs
among o xs has = All-contains (λ y. IsAmong y xs) xs o (all_among xs) has

contains : (o : ℕ) (xs : List ℕ) → IsAmong o xs → Contains xs o
contains o [] is = absurd is
contains o (x ∷ xs) (inl is) = subst (Contains (x ∷ xs)) is (Contains-append_left (x ∷ []) xs x (Contains-push [] x))
contains o (x ∷ xs) (inr is) = Contains-append_right (x ∷ []) xs o (contains o xs is)

-- one of them is left out
abbrev without : ℕ → List ℕ → List ℕ
without o [] = []
without o (x ∷ xs) = if x == o then xs else x ∷ without o xs

fewer : (o : ℕ) (xs : List ℕ) → IsAmong o xs → length (without o xs) + 1 ≡ length xs
fewer o [] is = absurd is
fewer o (x ∷ xs) is = by (x == o) refl is (λ at. fewer o xs at)
  where
    by : (b : Bool) → (x == o) ≡ b → (x ≡ o) ⊎ IsAmong o xs → (IsAmong o xs → length (without o xs) + 1 ≡ length xs) → length (if b then xs else x ∷ without o xs) + 1 ≡ length (x ∷ xs)
    by true same any rest = omega arith
    by false other (inl at) rest = absurd (grind (arith, nat_tests, other, at))
    by false other (inr at) rest = (let one = rest at in omega (arith, one))

still : (o q : ℕ) → (q ≡ o → ⊥) → (xs : List ℕ) → IsAmong q xs → IsAmong q (without o xs)
still o q differ [] is = absurd is
still o q differ (x ∷ xs) is = by (x == o) refl is (λ at. still o q differ xs at)
  where
    by : (b : Bool) → (x == o) ≡ b → (x ≡ q) ⊎ IsAmong q xs → (IsAmong q xs → IsAmong q (without o xs)) → IsAmong q (if b then xs else x ∷ without o xs)
    by true same (inl at) rest = absurd (differ (grind (arith, nat_tests, same, at)))
    by true same (inr at) rest = at
    by false other (inl at) rest = inl at
    by false other (inr at) rest = inr (rest at)

all_both : {X : Type 0} (P Q : X → Type 0) (xs : List X) → All P xs → All Q xs → All (λ x. P x × Q x) xs
all_both P Q [] a b = All-nil (λ x. P x × Q x)
all_both P Q (x ∷ xs) a b = All-cons (λ x. P x × Q x) x xs (All-head P x xs a, All-head Q x xs b) (all_both P Q xs (All-tail P x xs a) (All-tail Q x xs b))

-- ---- tables

-- what a table has from which an object's pointer is taken
pub table_left : (old new : ℕ → Option Pointer) (object : ℕ) → ((o : ℕ) → new o ≡ cond (nat_eq object o) None (old o)) → (o : ℕ) (q : Pointer) → new o ≡ Some q → (object ≡ o → ⊥) × (old o ≡ Some q)
table_left old new object removed o q at_q = dite (ℕ_discrete object o)
    (λ same. absurd (let e : None ≡ Some q = sym (put_here (new o) (old o) object o None (removed o) same) ∙ at_q in cc))
    (λ isnt. (isnt, sym (put_elsewhere (new o) (old o) object o None (removed o) isnt) ∙ at_q))

-- what one has that an object was freed from
pub taken_left : (object : ℕ) (table now : ℕ → Option Pointer) (result : Result Unit FreeFault) → TriesTake object table now (Some result) → (o : ℕ) (q : Pointer) → now o ≡ Some q → table o ≡ Some q
taken_left object table now (Ok done) takes o q at = (table_left table now object takes.2 o q at).1
taken_left object table now (Err NoObject) takes o q at = sym (takes.1 o) ∙ at

-- ---- a point

-- what it keeps it has a group for
pub held_group : (group : Option ℕ) (birth : ℕ) → holds_birth group birth ≡ true → (own : ℕ) × (group ≡ Some own) × (birth ≤ own)
held_group None birth held = absurd (cc)
held_group (Some own) birth held = (own, refl, grind (arith, nat_tests, held))

-- and what was born behind its group it doesn't
pub not_held : (group : Option ℕ) (birth : ℕ) → ((own : ℕ) → group ≡ Some own → own < birth) → holds_birth group birth ≡ true → ⊥
not_held group birth behind held = (let z = held_group group birth held in let late = behind z.0 z.1 in let low = z.2 in omega (arith, late, low))

-- there is room for one that a table has
pub room_for : (point : Point) (table : ℕ → Option Pointer) (seq object : ℕ) (p : Pointer) → table object ≡ Some p → holds_birth point.group p.birth ≡ true → PointFits 0 point table seq → (0 < point.spare) × (length point.drops < 524_288)
room_for point table seq object p at held fits =
    let less = fewer object fits.names (among object fits.names (fits.each object p at held)) in
    let room = fits.room in
    let few = fits.few in
    (omega (arith, less, room), omega (arith, less, few))

-- what fits with room for more fits with room for none
pub fits_less : (more : ℕ) (point : Point) (table : ℕ → Option Pointer) (seq : ℕ) → PointFits more point table seq → PointFits 0 point table seq
fits_less more point table seq fits = record {
  names = fits.names;
  each = fits.each;
  room = (let room = fits.room in omega (arith, room));
  few = (let few = fits.few in omega (arith, few));
  apart = fits.apart;
  begun = fits.begun;
  none = fits.none;
}

-- the table has other pointers than one that the checkpoint keeps, and it has room for that then
pub fits_without : (point : Point) (old new : ℕ → Option Pointer) (seq later : ℕ) (object : ℕ) (p : Pointer) → old object ≡ Some p → holds_birth point.group p.birth ≡ true
    → ((o : ℕ) (q : Pointer) → new o ≡ Some q → holds_birth point.group q.birth ≡ true → (object ≡ o → ⊥) × (old o ≡ Some q)) → ((o : ℕ) (q : Pointer) → new o ≡ Some q → (old o ≡ Some q) ⊎ (seq < q.seq)) → seq ≤ later
    → PointFits 0 point old seq → PointFits 1 point new later
fits_without point old new seq later object p at held others newer up fits = record {
  names = without object fits.names;
  each = λ o q at_q kept. (let z = others o q at_q kept in contains o (without object fits.names) (still object o (λ same. z.0 (sym same)) fits.names (among o fits.names (fits.each o q z.1 kept))));
  room = (let room = fits.room in let one = less in omega (arith, room, one));
  few = (let few = fits.few in let one = less in omega (arith, few, one));
  apart = All-weaker (λ d. ((q : Pointer) → old d.object ≡ Some q → d.seq ≡ q.seq → ⊥) × (d.seq ≤ seq)) (λ d. (q : Pointer) → new d.object ≡ Some q → d.seq ≡ q.seq → ⊥) apart_of point.drops both;
  begun = All-weaker (λ d. d.seq ≤ seq) (λ d. d.seq ≤ later) (λ d low. omega (arith, low, up)) point.drops fits.begun;
  none = fits.none;
}
  where
    less : length (without object fits.names) + 1 ≡ length fits.names
    less = fewer object fits.names (among object fits.names (fits.each object p at held))

    both : All (λ d. ((q : Pointer) → old d.object ≡ Some q → d.seq ≡ q.seq → ⊥) × (d.seq ≤ seq)) point.drops
    both = all_both (λ d. (q : Pointer) → old d.object ≡ Some q → d.seq ≡ q.seq → ⊥) (λ d. d.seq ≤ seq) point.drops fits.apart fits.begun

    apart_of : (d : DroppedIn) → ((q : Pointer) → old d.object ≡ Some q → d.seq ≡ q.seq → ⊥) × (d.seq ≤ seq) → (q : Pointer) → new d.object ≡ Some q → d.seq ≡ q.seq → ⊥
    apart_of d z q at_q same = elim (newer d.object q at_q) [
      | inl was ↦ z.0 q was same
      | inr late ↦ (let low = z.1 in omega (arith, low, late, same))
    ]

-- so it has where nothing that it keeps is new
pub fits_new : (point : Point) (old new : ℕ → Option Pointer) (seq later : ℕ) → ((o : ℕ) (q : Pointer) → new o ≡ Some q → holds_birth point.group q.birth ≡ true → old o ≡ Some q) → ((o : ℕ) (q : Pointer) → new o ≡ Some q → (old o ≡ Some q) ⊎ (seq < q.seq)) → seq ≤ later
    → PointFits 0 point old seq → PointFits 0 point new later
fits_new point old new seq later others newer up fits = record {
  names = fits.names;
  each = λ o q at_q kept. fits.each o q (others o q at_q kept) kept;
  room = fits.room;
  few = fits.few;
  apart = All-weaker (λ d. ((q : Pointer) → old d.object ≡ Some q → d.seq ≡ q.seq → ⊥) × (d.seq ≤ seq)) (λ d. (q : Pointer) → new d.object ≡ Some q → d.seq ≡ q.seq → ⊥) apart_of point.drops
      (all_both (λ d. (q : Pointer) → old d.object ≡ Some q → d.seq ≡ q.seq → ⊥) (λ d. d.seq ≤ seq) point.drops fits.apart fits.begun);
  begun = All-weaker (λ d. d.seq ≤ seq) (λ d. d.seq ≤ later) (λ d low. omega (arith, low, up)) point.drops fits.begun;
  none = fits.none;
}
  where
    apart_of : (d : DroppedIn) → ((q : Pointer) → old d.object ≡ Some q → d.seq ≡ q.seq → ⊥) × (d.seq ≤ seq) → (q : Pointer) → new d.object ≡ Some q → d.seq ≡ q.seq → ⊥
    apart_of d z q at_q same = elim (newer d.object q at_q) [
      | inl was ↦ z.0 q was same
      | inr late ↦ (let low = z.1 in omega (arith, low, late, same))
    ]

-- the point behind a drop
fits_dropped : (old new : Point) (table : ℕ → Option Pointer) (seq group : ℕ) (p : Pointer) → Drops old new p.object p.seq group → (own : ℕ) → old.group ≡ Some own → ((q : Pointer) → table p.object ≡ Some q → p.seq ≡ q.seq → ⊥) → p.seq ≤ seq
    → PointFits 1 old table seq → PointFits 0 new table seq
fits_dropped old new table seq group p d own has apart begun fits = record {
  names = fits.names;
  each = λ o q at kept. fits.each o q at (subst (λ g. holds_birth g q.birth ≡ true) d.group_is kept);
  room = (let was = fits.room in let room = d.room in omega (arith, was, room));
  few = (let few = fits.few in let one = many in omega (arith, few, one));
  apart = subst (All Apart) (sym d.drops) (All-push Apart old.drops it fits.apart apart);
  begun = subst (All (λ e. e.seq ≤ seq)) (sym d.drops) (All-push (λ (e : DroppedIn). e.seq ≤ seq) old.drops it fits.begun begun);
  none = λ none. absurd (let both = sym none ∙ (d.group_is ∙ has) in cc);
}
  where
    it : DroppedIn
    it = record { object = p.object; seq = p.seq; group = group }

    Apart : DroppedIn → Type 0
    Apart e = (q : Pointer) → table e.object ≡ Some q → e.seq ≡ q.seq → ⊥

    many : length new.drops ≡ length old.drops + 1
    many = ap (λ ds. length ds) d.drops ∙ length-append old.drops (it ∷ [])

-- ---- a drop

-- what a block is dropped in: the group that is open where it lies, or the floor
pub record DropsAt {R A : Type 0} (area : areas.Ghosts A) (pool : Pool R A) (uber : Uber A) (own : Own) (p : Pointer) (group : ℕ) : Type 0 where
  pub shard : Shard R A
  pub there : slice_get pool.metaslabs.shards.items p.metaslab ≡ Some shard
  pub group_is : group ≡ max shard.open_group pool.own.floor
  pub uber_is : DropsUber area pool.uber uber (key_of p) group
  pub seq : own.seq ≡ pool.own.seq
  pub floor : own.floor ≡ group

module _ {R A : Type 0} (rack : racks.Ghosts R) (area : areas.Ghosts A) (pool : Pool R A) (uber : Uber A) (own : Own) (p : Pointer) (group : ℕ) (w : IsWhole rack area pool) (d : DropsAt area pool uber own p group) where
  abbrev table : ℕ → Option Pointer
  table object = get nat_eq own.objects object

  pub group_high : group ≤ group_of (kept_of pool.uber) + 2
  group_high =
      let is = w.shards p.metaslab d.shard d.there in
      let high = open_low d.shard.open_group d.shard.closing d.shard.committed d.shard.sealed is.valid.groups in
      let committed = is.committed in
      let floor = w.floor in
      let group_is = d.group_is in
      grind (arith, nat_tests, high, committed, floor, group_is)

  pub group_low : group ≤ LAST_NUMBER
  group_low =
      let low = (w.shards p.metaslab d.shard d.there).valid.low in
      let floor = w.low in
      let group_is = d.group_is in
      grind (arith, nat_tests, low, floor, group_is)

  -- the checkpoint is of an earlier group
  pub group_behind : (n : ℕ) → (point_of pool.uber).group ≡ Some n → n < group
  group_behind n is = (let late = w.behind n p.metaslab d.shard is d.there in let group_is = d.group_is in grind (arith, nat_tests, late, group_is))

  pub whole_dropped : holds_birth (point_of pool.uber).group p.birth ≡ true → PointFits 1 (point_of pool.uber) table pool.own.seq → ((o : ℕ) (q : Pointer) → table o ≡ Some q → get nat_eq pool.own.objects o ≡ Some q) → IsApart table p → p.seq ≤ pool.own.seq
      → IsWhole rack area (record pool { uber = uber; own = own })
  whole_dropped kept fits from apart begun = record {
    perms = w.perms;
    layout = w.layout;
    many = w.many;
    shards = λ m shard at. (let is = w.shards m shard at in record {
      valid = is.valid;
      part = is.part;
      numbered = λ key h e. subst (λ n. key.seq ≤ n) (sym d.seq) (is.numbered key h e);
      settled = is.settled;
      committed = is.committed ∙ ap group_of (sym d.uber_is.kept);
      leaves = λ leaf own_leaf. subst (λ n. leaf < n) (sym d.uber_is.leaf) (is.leaves leaf own_leaf);
    });
    alike = w.alike;
    uber = d.uber_is.valid;
    uber_layout = ap (λ g. ubers.layout_in g pool.geometry.props.version) d.uber_is.layout ∙ w.uber_layout;
    objects = λ o q at. (let is = w.objects o q (from o q at) in record { object_is = is.object_is; shard = is.shard; there = is.there; live = is.live });
    floor = (let high = group_high in let floor = d.floor in let kept_is = ap group_of d.uber_is.kept in omega (arith, high, floor, kept_is));
    low = (let low = group_low in let floor = d.floor in omega (arith, low, floor));
    near = elim (near_open group d.shard.open_group pool.own.floor d.shard.open_group d.group_is (omega arith)) [
      | inl less ↦ near_kept pool.own.floor own.floor (slice_get pool.metaslabs.shards.items) (slice_get pool.metaslabs.shards.items) (let floor = d.floor in omega (arith, floor, less)) (λ k z at. (z, at, omega arith)) w.near
      | inr up ↦ record { metaslab = p.metaslab; shard = d.shard; there = d.there; near = (let floor = d.floor in omega (arith, floor, up)) }
    ];
    point = subst (PointFits 0 (point_of uber) table) (sym d.seq)
        (fits_dropped (point_of pool.uber) (point_of uber) table pool.own.seq group p d.uber_is.drops held.0 held.1 other begun fits);
    behind = λ n m shard is at. w.behind n m shard (sym d.uber_is.drops.group_is ∙ is) at;
  }
    where
      held : (n : ℕ) × ((point_of pool.uber).group ≡ Some n) × (p.birth ≤ n)
      held = held_group (point_of pool.uber).group p.birth kept

      other : (q : Pointer) → table p.object ≡ Some q → p.seq ≡ q.seq → ⊥
      other q at same =
          let object_is = (w.objects p.object q (from p.object q at)).object_is in
          let keys : key_of p ≡ key_of q = λ i. record { object = sym object_is i; seq = same i } in
          true≢false (sym (subst (λ k. key_eq (key_of p) k ≡ true) keys (key_refl (key_of p))) ∙ apart p.object q at)

  -- the room for it, where the table had its pointer
  pub fits_removed : (object : ℕ) → get nat_eq pool.own.objects object ≡ Some p → holds_birth (point_of pool.uber).group p.birth ≡ true → ((o : ℕ) → table o ≡ cond (nat_eq object o) None (get nat_eq pool.own.objects o)) → PointFits 1 (point_of pool.uber) table pool.own.seq
  fits_removed object at kept removed =
      fits_without (point_of pool.uber) (get nat_eq pool.own.objects) table pool.own.seq pool.own.seq object p at kept (λ o q at_q held. table_left (get nat_eq pool.own.objects) table object removed o q at_q)
      (λ o q at_q. inl (table_left (get nat_eq pool.own.objects) table object removed o q at_q).1) (omega arith) w.point

-- ---- a new pointer

-- the blocks of a pool were written: an object has another pointer
module _ {R A : Type 0} (rack : racks.Ghosts R) (area : areas.Ghosts A) (pool : Pool R A) (w : IsWhole rack area pool) (new : ℕ → Option Pointer) (later object : ℕ) (p : Pointer)
    (sets : (o : ℕ) → new o ≡ (if object == o then Some p else get nat_eq pool.own.objects o)) (is_new : IsNewPointer (λ m. slice_get pool.metaslabs.shards.items m) pool.own.seq p) (up : pool.own.seq ≤ later) where
  isnt_kept : holds_birth (point_of pool.uber).group p.birth ≡ true → ⊥
  isnt_kept held = not_held (point_of pool.uber).group p.birth (λ own is. (let low = w.behind own p.metaslab is_new.shard is is_new.there in let late = is_new.late in omega (arith, low, late))) held

  others : (o : ℕ) (q : Pointer) → new o ≡ Some q → ((object ≡ o) × (p ≡ q)) ⊎ ((object ≡ o → ⊥) × (get nat_eq pool.own.objects o ≡ Some q))
  others o q at = dite (ℕ_discrete object o)
      (λ same. inl (same, some_of (new o) p q (put_here (new o) (get nat_eq pool.own.objects o) object o (Some p) (sets o) same) at))
      (λ isnt. inr (isnt, sym (put_elsewhere (new o) (get nat_eq pool.own.objects o) object o (Some p) (sets o) isnt) ∙ at))

  kept_others : (o : ℕ) (q : Pointer) → new o ≡ Some q → holds_birth (point_of pool.uber).group q.birth ≡ true → (object ≡ o → ⊥) × (get nat_eq pool.own.objects o ≡ Some q)
  kept_others o q at held = elim (others o q at) [
    | inl z ↦ absurd (isnt_kept (subst (λ (r : Pointer). holds_birth (point_of pool.uber).group r.birth ≡ true) (sym z.1) held))
    | inr z ↦ z
  ]

  newer_others : (o : ℕ) (q : Pointer) → new o ≡ Some q → (get nat_eq pool.own.objects o ≡ Some q) ⊎ (pool.own.seq < q.seq)
  newer_others o q at = elim (others o q at) [
    | inl z ↦ inr (let seq_is = is_new.seq_is in let same = ap (λ (r : Pointer). r.seq) z.1 in omega (arith, seq_is, same))
    | inr z ↦ inl z.1
  ]

  -- the checkpoint has room for the same ones
  pub fits_written : PointFits 0 (point_of pool.uber) new later
  fits_written = fits_new (point_of pool.uber) (get nat_eq pool.own.objects) new pool.own.seq later (λ o q at held. (kept_others o q at held).1) newer_others up w.point

  -- and for the earlier one, where it keeps that
  pub fits_beside : (earlier : Pointer) → get nat_eq pool.own.objects object ≡ Some earlier → holds_birth (point_of pool.uber).group earlier.birth ≡ true → PointFits 1 (point_of pool.uber) new later
  fits_beside earlier at held = fits_without (point_of pool.uber) (get nat_eq pool.own.objects) new pool.own.seq later object earlier at held kept_others newer_others up w.point

-- none that the checkpoint alone keeps is an object's own
pub other_drops : {R A : Type 0} (rack : racks.Ghosts R) (area : areas.Ghosts A) (pool : Pool R A) (object : ℕ) (p : Pointer) → IsWhole rack area pool → get nat_eq pool.own.objects object ≡ Some p → p.object ≡ object
    → All (λ d. IsOther p.object p.seq d) (point_of pool.uber).drops
other_drops rack area pool object p w at object_is =
    All-weaker (λ d. (q : Pointer) → get nat_eq pool.own.objects d.object ≡ Some q → d.seq ≡ q.seq → ⊥) (λ d. IsOther p.object p.seq d)
    (λ d apart same_object same_seq. apart p (ap (get nat_eq pool.own.objects) (same_object ∙ object_is) ∙ at) same_seq) (point_of pool.uber).drops w.point.apart

-- a pointer of the table has the number of a write that was begun
pub pointer_begun : {R A : Type 0} (rack : racks.Ghosts R) (area : areas.Ghosts A) (pool : Pool R A) (object : ℕ) (p : Pointer) → IsWhole rack area pool → IsPointer pool object p → p.seq ≤ pool.own.seq
pointer_begun rack area pool object p w is = (w.shards p.metaslab is.shard is.there).numbered (key_of p) (held_at (staged Live p)) (key_leads is.shard.entries p.first (staged Live p) is.live)

-- no pointer of a table leads to the block of one that was taken from it
pub apart_removed : {R A : Type 0} (rack : racks.Ghosts R) (area : areas.Ghosts A) (pool : Pool R A) (object : ℕ) (p : Pointer) (new : ℕ → Option Pointer) → IsWhole rack area pool → get nat_eq pool.own.objects object ≡ Some p
    → ((o : ℕ) → new o ≡ cond (nat_eq object o) None (get nat_eq pool.own.objects o)) → IsApart new p
apart_removed rack area pool object p new w at removed o q at_q = elim (bool_cases (key_eq (key_of p) (key_of q))) [
  | inr other ↦ other
  | inl one ↦
      let z = table_left (get nat_eq pool.own.objects) new object removed o q at_q in
      let keys : p.object ≡ q.object = ap (λ (k : Key). k.object) (key_true (key_of p) (key_of q) one) in
      absurd (z.0 (sym (w.objects object p at).object_is ∙ (keys ∙ (w.objects o q z.1).object_is)))
]

-- ---- by the answer of a write

-- the pointer that a write says is the new one
pub sets_new : (E : Type 0) (object : ℕ) (bytes : List ℕ) (table now : ℕ → Option Pointer) (earlier : Option Pointer) (p : Pointer) → StoreSetsTable {E = E} object bytes table now (Some (Ok earlier)) → now object ≡ Some p → (o : ℕ) → now o ≡ (if object == o then Some p else table o)
sets_new E object bytes table now earlier p sets at o =
    let same : sets.0 ≡ p = some_of (now object) sets.0 p (put_here (now object) (table object) object object (Some sets.0) (sets.2 object) refl) at in
    subst (λ q. now o ≡ (if object == o then Some q else table o)) same (sets.2 o)

-- a write of a pool is done, but for the drop of the earlier block
module _ {R A : Type 0} (E : Type 0) (rack : racks.Ghosts R) (area : areas.Ghosts A) (pool new : Pool R A) (w : IsWhole rack area pool) (geometry : new.geometry ≡ pool.geometry) (uber : new.uber ≡ pool.uber) (stay : AllStay all (left_in pool) (left_in new))
    (by : IsWholeBy rack all (left_in new) (table_in new) new.own.seq new.own.floor) (object : ℕ) (bytes : List ℕ) where
  pub beside : (earlier : Pointer) → StoreSetsTable {E = E} object bytes (table_in pool) (table_in new) (Some (Ok (Some earlier))) → StoresNew {E = E} (left_in pool) object pool.own.seq (table_in pool) (table_in new) (Some (Ok (Some earlier)))
      → ComesBack rack all (left_in new) (table_in new) object earlier → holds_birth (point_of pool.uber).group earlier.birth ≡ true → pool.own.seq ≤ new.own.seq → IsWholeBeside rack area new earlier
  beside earlier sets stored back kept up = record {
    whole = whole_left rack area pool new w geometry uber stay by (fits_less 1 (point_of new.uber) (table_in new) new.own.seq fits);
    fits = fits;
    has = record { object_is = refl; shard = back.has.shard; there = back.has.there; live = back.has.live };
    apart = back.apart;
    begun = (let low = pointer_begun rack area pool object earlier w (w.objects object earlier stored.3) in omega (arith, low, up));
    other = subst (λ u. All (λ d. IsOther earlier.object earlier.seq d) (point_of u).drops) (sym uber) (other_drops rack area pool object earlier w stored.3 back.has.object_is);
  }
    where
      fits : PointFits 1 (point_of new.uber) (table_in new) new.own.seq
      fits = subst (λ u. PointFits 1 (point_of u) (table_in new) new.own.seq) (sym uber)
          (fits_beside rack area pool w (table_in new) new.own.seq object stored.0 (sets_new E object bytes (table_in pool) (table_in new) (Some earlier) stored.0 sets stored.1) stored.2 up earlier stored.3 kept)

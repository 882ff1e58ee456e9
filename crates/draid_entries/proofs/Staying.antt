-- The blocks of a group's image, picked from the table's map by first stripe.
use Rattle.std.proofs.Common.{◌≡◌, ◌≤◌, ◌+◌, ◌||◌, ℕ, Bool, true, false, List, [], ◌∷◌, length, Option, Some, None, IsSome, All, cond, if◌then◌else◌, refl, sym, ◌∙◌, ap, subst, arith, nat_cmp, Less, option_map, Result, Ok, Err, IfOk}
use Rattle.std.specs.BTreeMap.{IsOrdered, is_at}
use Rattle.std.specs.Cmp.{IsEquivalence}
use Rattle.std.specs.List.{AllByRecursion, list_any}
use Rattle.std.specs.List.Sorted.{IsStrictlySortedBy}
use Rattle.std.specs.Map.{keys_of, lookup, values_of}
use Rattle.std.specs.Ordering.{eq_by_cmp}
use Rattle.std.specs.Set.{is_member}
use Rattle.std.proofs.lemmas.Bool.{true≢false}
use Rattle.std.proofs.lemmas.Bool.Decides.{nat_tests}
use Rattle.std.proofs.lemmas.List.Elements.{All-cons, All-head, All-nil, All-tail, All-weaker}
use Rattle.std.proofs.lemmas.Map.Entries.{length-keys_of, length-values_of}
use Rattle.std.proofs.lemmas.Map.Keys.{IsDistinct-from_sorted, sorted_head, sorted_tail}
use Rattle.std.proofs.lemmas.Map.Made.{length-le_from_is_member}
use Rattle.std.specs.declared.alloc.Global.{Global}
use Rattle.std.specs.declared.vec.Vec.{Vec}
use Rattle.draid_names.specs.declared.fault.NoMemory.{NoMemory}
use Rattle.draid_names.specs.declared.pointer.Pointer.{Pointer}
use Rattle.draid_machine.specs.declared.names.Key.{Key}
use Rattle.draid_machine.specs.Names.{key_eq}
use Rattle.draid_machine.specs.After.{keep_if, seal_held}
use Rattle.draid_machine.proofs.Small.{some_injective, true_left, true_right}
use Rattle.draid_entries.specs.declared.entry.Entry.{Entry}
use Rattle.draid_entries.specs.declared.entries.Entries.{Entries}
use Rattle.draid_entries.specs.Entries.{count_of, held_in}
use Rattle.draid_entries.specs.Listed.{AscendFrom, IsListed, ListsBlocks, has_key, held_of, staying, stays_at}
use Rattle.draid_entries.specs.Maps.{entry_in, first_in, held_at, held_from, key_of}
use Rattle.draid_entries.proofs.Counted.{led_held}
use Rattle.draid_entries.proofs.Keys.{key_itself}

-- ---- how many there are
number_laws : IsEquivalence (eq_by_cmp nat_cmp)
number_laws = grind (arith, nat_tests)

-- a first stripe of the map is that of an entry
member_has : (es : List (ℕ × Entry)) (x : ℕ) → is_member (eq_by_cmp nat_cmp) (keys_of es) x ≡ true → (e : Entry) × (lookup (is_at (nat_cmp x)) es ≡ Some e)
member_has [] x is = absurd (true≢false (sym is))
member_has (e ∷ es) x is = by (is_at (nat_cmp x) e.0) is (member_has es x)
  where
    by : (b : Bool) → (b || is_member (eq_by_cmp nat_cmp) (keys_of es) x) ≡ true → (is_member (eq_by_cmp nat_cmp) (keys_of es) x ≡ true → (f : Entry) × (lookup (is_at (nat_cmp x)) es ≡ Some f))
        → (f : Entry) × (cond b (Some e.1) (lookup (is_at (nat_cmp x)) es) ≡ Some f)
    by true is more = (e.1, refl)
    by false is more = more is

number_itself : (x : ℕ) → eq_by_cmp nat_cmp x x ≡ true
number_itself x = grind (arith, nat_tests)

-- to which a key leads
led_member : (es : List (Key × ℕ)) (k : Key) (x : ℕ) → first_in es k ≡ Some x → is_member (eq_by_cmp nat_cmp) (values_of es) x ≡ true
led_member [] k x is = absurd (cc)
led_member (e ∷ es) k x is = by (key_eq e.0 k) is (led_member es k x)
  where
    by : (b : Bool) → (if b then Some e.1 else first_in es k) ≡ Some x → (first_in es k ≡ Some x → is_member (eq_by_cmp nat_cmp) (values_of es) x ≡ true)
        → (eq_by_cmp nat_cmp x e.1 || is_member (eq_by_cmp nat_cmp) (values_of es) x) ≡ true
    by true at more = true_left (eq_by_cmp nat_cmp x e.1) (is_member (eq_by_cmp nat_cmp) (values_of es) x) (subst (λ y. eq_by_cmp nat_cmp x y ≡ true) (sym (some_injective e.1 x at)) (number_itself x))
    by false at more = true_right (eq_by_cmp nat_cmp x e.1) (is_member (eq_by_cmp nat_cmp) (values_of es) x) (more at)

few_firsts : (t : Entries) → IsOrdered nat_cmp t.firsts → length t.firsts.entries ≤ count_of t
few_firsts t ordered =
    let le = length-le_from_is_member number_laws (keys_of t.firsts.entries) (values_of t.keys.entries) (IsDistinct-from_sorted nat_cmp (keys_of t.firsts.entries) ordered)
    (λ x is. let e = member_has t.firsts.entries x is in led_member t.keys.entries (key_of e.0.pointer) x (t.agree.found x e.0 e.1).named) in
    let a = length-keys_of t.firsts.entries in
    let b = length-values_of t.keys.entries in
    omega (arith, le, a, b)

staying_few : (group : ℕ) (es : List (ℕ × Entry)) → length (staying group es) ≤ length es
staying_few group [] = omega arith
staying_few group (e ∷ es) = by (stays_at group e.1) (staying_few group es)
  where
    by : (b : Bool) → length (staying group es) ≤ length es → length (if b then e.1.pointer ∷ staying group es else staying group es) ≤ length (e ∷ es)
    by true le = omega (arith, le)
    by false le = omega (arith, le)

-- ---- their order
is_less : (x y : ℕ) → nat_cmp x y ≡ Less → x + 1 ≤ y
is_less x y is = grind (arith, nat_tests)

all_behind : (x : ℕ) (ks : List ℕ) → AllByRecursion (λ y. nat_cmp x y ≡ Less) ks → AllByRecursion (λ y. x + 1 ≤ y) ks
all_behind x [] all = tt
all_behind x (k ∷ ks) all = (is_less x k all.0, all_behind x ks all.1)

all_from_zero : (ks : List ℕ) → AllByRecursion (λ y. 0 ≤ y) ks
all_from_zero [] = tt
all_from_zero (k ∷ ks) = (omega arith, all_from_zero ks)

module _ (t : Entries) (group : ℕ) where
  -- the entries are the table's
  abbrev pub AtPlaces : List (ℕ × Entry) → Type 0
  AtPlaces es = All (λ e. entry_in t.firsts e.0 ≡ Some e.1) es

  at_first : (e : ℕ × Entry) → entry_in t.firsts e.0 ≡ Some e.1 → e.1.pointer.first ≡ e.0
  at_first e at = (t.agree.found e.0 e.1 at).first_is

  ascend : (es : List (ℕ × Entry)) (low : ℕ) → AtPlaces es → IsStrictlySortedBy nat_cmp (keys_of es) → AllByRecursion (λ y. low ≤ y) (keys_of es) → AscendFrom low (staying group es)
  ascend [] low all sorted from = tt
  ascend (e ∷ es) low all sorted from =
      by (stays_at group e.1)
      (λ next behind. ascend es next (All-tail (λ e. entry_in t.firsts e.0 ≡ Some e.1) e es all) (sorted_tail nat_cmp e.0 (keys_of es) sorted) behind)
    where
      first_is : e.1.pointer.first ≡ e.0
      first_is = at_first e (All-head (λ e. entry_in t.firsts e.0 ≡ Some e.1) e es all)

      behind : AllByRecursion (λ y. e.1.pointer.first + 1 ≤ y) (keys_of es)
      behind = subst (λ x. AllByRecursion (λ y. x + 1 ≤ y) (keys_of es)) (sym first_is) (all_behind e.0 (keys_of es) (sorted_head nat_cmp e.0 (keys_of es) sorted))

      by : (b : Bool) → ((next : ℕ) → AllByRecursion (λ y. next ≤ y) (keys_of es) → AscendFrom next (staying group es)) → AscendFrom low (if b then e.1.pointer ∷ staying group es else staying group es)
      by true rest = (subst (λ x. low ≤ x) (sym first_is) from.0, rest (e.1.pointer.first + 1) behind)
      by false rest = rest low from.1

  -- ---- each is the table's
  listed_each : (es : List (ℕ × Entry)) → AtPlaces es → All (IsListed t group) (staying group es)
  listed_each [] all = All-nil (IsListed t group)
  listed_each (e ∷ es) all = by (stays_at group e.1) refl (listed_each es (All-tail (λ e. entry_in t.firsts e.0 ≡ Some e.1) e es all))
    where
      here : entry_in t.firsts e.0 ≡ Some e.1
      here = All-head (λ e. entry_in t.firsts e.0 ≡ Some e.1) e es all

      by : (b : Bool) → stays_at group e.1 ≡ b → All (IsListed t group) (staying group es) → All (IsListed t group) (if b then e.1.pointer ∷ staying group es else staying group es)
      by true is rest = All-cons (IsListed t group) e.1.pointer (staying group es) (record { stage = e.1.stage; there = ap (entry_in t.firsts) (at_first e here) ∙ here; stays = is }) rest
      by false is rest = rest

  says_each : (p : Pointer) → IsListed t group p → seal_held group (held_in t (key_of p)) ≡ Some (held_of p)
  says_each p l =
      let named : first_in t.keys.entries (key_of p) ≡ Some p.first = (t.agree.found p.first (record { pointer = p; stage = l.stage }) l.there).named in
      ap (seal_held group) (ap (held_from t.firsts) named ∙ ap (option_map held_at) l.there) ∙ ap (λ b. keep_if b (held_of p)) l.stays

  -- ---- and the table has no other
  kept : {A : Type 0} (b : Bool) (x : A) → IsSome (keep_if b x) → b ≡ true
  kept true x is = refl
  kept false x is = is

  among : (es : List (ℕ × Entry)) (x : ℕ) (e : Entry) → lookup (is_at (nat_cmp x)) es ≡ Some e → stays_at group e ≡ true → list_any (has_key (key_of e.pointer)) (staying group es) ≡ true
  among [] x e is stays = absurd (cc)
  among (f ∷ es) x e is stays = by (is_at (nat_cmp x) f.0) is (λ found. among es x e found stays)
    where
      test : Pointer → Bool
      test = has_key (key_of e.pointer)

      more : (b : Bool) → list_any test (staying group es) ≡ true → list_any test (if b then f.1.pointer ∷ staying group es else staying group es) ≡ true
      more true any = true_right (test f.1.pointer) (list_any test (staying group es)) any
      more false any = any

      own : f.1 ≡ e → list_any test (if stays_at group f.1 then f.1.pointer ∷ staying group es else staying group es) ≡ true
      own same =
          let here : stays_at group f.1 ≡ true = ap (stays_at group) same ∙ stays in
          ap (λ b. list_any test (if b then f.1.pointer ∷ staying group es else staying group es)) here
          ∙ true_left (test f.1.pointer) (list_any test (staying group es)) (ap (λ (g : Entry). test g.pointer) same ∙ key_itself (key_of e.pointer))

      by : (b : Bool) → cond b (Some f.1) (lookup (is_at (nat_cmp x)) es) ≡ Some e → (lookup (is_at (nat_cmp x)) es ≡ Some e → list_any test (staying group es) ≡ true)
          → list_any test (staying group (f ∷ es)) ≡ true
      by true at rest = own (some_injective f.1 e at)
      by false at rest = more (stays_at group f.1) (rest at)

  says_all : (key : Key) → IsSome (seal_held group (held_in t key)) → list_any (has_key key) (staying group t.firsts.entries) ≡ true
  says_all key some = by (first_in t.keys.entries key) refl some
    where
      by : (o : Option ℕ) → first_in t.keys.entries key ≡ o → IsSome (seal_held group (held_from t.firsts o)) → list_any (has_key key) (staying group t.firsts.entries) ≡ true
      by None at is = absurd (true≢false (sym is))
      by (Some x) at is =
          let z = led_held t key x at in
          let held : held_from t.firsts (Some x) ≡ Some (held_at z.0) = ap (option_map held_at) z.1 in
          let stays : stays_at group z.0 ≡ true = kept (stays_at group z.0) (held_of z.0.pointer) (subst (λ o. IsSome (seal_held group o)) held is) in
          subst (λ k. list_any (has_key k) (staying group t.firsts.entries) ≡ true) z.2 (among t.firsts.entries x z.0 z.1 stays)

  pub lists : (blocks : List Pointer) → blocks ≡ staying group t.firsts.entries → IsOrdered nat_cmp t.firsts → AtPlaces t.firsts.entries → ListsBlocks t group blocks
  lists blocks are ordered found = subst (ListsBlocks t group) (sym are) all
    where
      each : All (IsListed t group) (staying group t.firsts.entries)
      each = listed_each t.firsts.entries found

      all : ListsBlocks t group (staying group t.firsts.entries)
      all = record {
        says = record { each = All-weaker (IsListed t group) (λ p. seal_held group (held_in t (key_of p)) ≡ Some (held_of p)) says_each (staying group t.firsts.entries) each; all = says_all };
        listed = each;
        ascending = ascend t.firsts.entries 0 found ordered (all_from_zero (keys_of t.firsts.entries));
        few = (let a = staying_few group t.firsts.entries in let b = few_firsts t ordered in omega (arith, a, b));
      }

pub ok_lists : (t : Entries) (group : ℕ) (r : Result (Vec Pointer Global) NoMemory) → IfOk r (λ blocks. blocks.items ≡ staying group t.firsts.entries) → IfOk r (λ blocks. IsOrdered nat_cmp t.firsts)
    → IfOk r (λ blocks. All (λ e. entry_in t.firsts e.0 ≡ Some e.1) t.firsts.entries) → IfOk r (λ blocks. ListsBlocks t group blocks.items)
ok_lists t group (Ok blocks) are ordered found = lists t group blocks.items are ordered found
ok_lists t group (Err e) are ordered found = tt

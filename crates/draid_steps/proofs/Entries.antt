-- Entries of the table of blocks and tickets: keys stand once.
use Rattle.std.proofs.Common.{◌≡◌, ◌<◌, ◌≤◌, ◌^◌, ◌||◌, ℕ, Bool, true, false, List, [], ◌∷◌, length, Some, None, Contains, if◌then◌else◌, refl, sym, ◌∙◌, ap, subst, arith, zero, suc}
use Rattle.std.specs.Ordering.{eq_by_cmp}
use Rattle.std.specs.Map.{keys_of}
use Rattle.std.specs.List.{IsDistinct, AllByRecursion}
use Rattle.std.specs.List.Sorted.{IsStrictlySortedBy}
use Rattle.std.specs.Set.{is_member}
use Rattle.std.specs.Cmp.{IsEquivalence}
use Rattle.std.proofs.lemmas.Bool.{true≢false}
use Rattle.std.proofs.lemmas.Bool.Decides.{nat_tests}
use Rattle.std.proofs.lemmas.Map.Keys.{IsDistinct-from_sorted, IsDistinct-head, IsDistinct-tail}
use Rattle.std.proofs.lemmas.Map.Entries.{length-keys_of}
use Rattle.std.proofs.lemmas.Map.Made.{length-le_from_is_member}
use Rattle.draid_machine.specs.declared.names.Key.{Key}
use Rattle.draid_machine.specs.declared.names.Held.{Held}
use Rattle.draid_machine.specs.Names.{key_eq}
use Rattle.draid_machine.specs.State.{Core}
use Rattle.draid_machine.specs.Step.{HoldsFewer}
use Rattle.draid_machine.proofs.Small.{some_injective, key_true, key_refl}
use Rattle.draid_world.specs.World.{held_in}
use Rattle.draid_world.proofs.Maps.{key_cmp}
use Rattle.draid_steps.specs.Room.{meets, first_meeting}

-- keys in order are distinct
abbrev pub AreApart : List (Key × Held) → Type 0
AreApart [] = (zero ≡ zero)
AreApart (e ∷ es) = ((k : Key) (h : Held) → held_in es k ≡ Some h → key_eq e.0 k ≡ false) × AreApart es

same_keys : (k j : Key) → eq_by_cmp key_cmp k j ≡ key_eq k j
same_keys k j = grind (arith, nat_tests)

-- what a look-up finds stands in the list
none_later : (k : Key) (es : List (Key × Held)) → AllByRecursion (λ y. eq_by_cmp key_cmp k y ≡ false) (keys_of es) → (j : Key) (h : Held) → held_in es j ≡ Some h → key_eq k j ≡ false
none_later k [] all j h is = absurd (cc)
none_later k (e ∷ es) all j h is = by (key_eq e.0 j) refl is (λ found. none_later k es all.1 j h found)
  where
    by : (b : Bool) → key_eq e.0 j ≡ b → (if b then Some e.1 else held_in es j) ≡ Some h → (held_in es j ≡ Some h → key_eq k j ≡ false) → key_eq k j ≡ false
    by true at is more = subst (λ x. key_eq k x ≡ false) (key_true e.0 j at) (sym (same_keys k e.0) ∙ all.0)
    by false at is more = more is

keys_apart : (es : List (Key × Held)) → IsDistinct (eq_by_cmp key_cmp) (keys_of es) → AreApart es
keys_apart [] d = refl
keys_apart (e ∷ es) d = (none_later e.0 es (IsDistinct-head (eq_by_cmp key_cmp) e.0 (keys_of es) d), keys_apart es (IsDistinct-tail (eq_by_cmp key_cmp) e.0 (keys_of es) d))

pub ordered_apart : (es : List (Key × Held)) → IsStrictlySortedBy key_cmp (keys_of es) → AreApart es
ordered_apart es s = keys_apart es (IsDistinct-from_sorted key_cmp (keys_of es) s)

-- entries at stripes below 2^48
abbrev pub AllLow : List (Key × Held) → Type 0
AllLow es = (k : Key) (h : Held) → held_in es k ≡ Some h → h.first < 2 ^ 48

pub head_low : (e : Key × Held) (es : List (Key × Held)) → AllLow (e ∷ es) → e.1.first < 2 ^ 48
head_low e es all = all e.0 e.1 (ap (λ b. if b then Some e.1 else held_in es e.0) (key_refl e.0))

pub tail_low : (e : Key × Held) (es : List (Key × Held)) → AreApart (e ∷ es) → AllLow (e ∷ es) → AllLow es
tail_low e es apart all = λ k h is. all k h (ap (λ b. if b then Some e.1 else held_in es k) (apart.0 k h is) ∙ is)

-- ---- runs that meet
pub meeting_found : (x n : ℕ) (es : List (Key × Held)) (h : Held) → AreApart es → first_meeting x n es ≡ Some h → (k : Key) × (held_in es k ≡ Some h) × (meets x n h ≡ true)
meeting_found x n [] h apart is = absurd (cc)
meeting_found x n (e ∷ es) h apart is = by (meets x n e.1) refl is (λ found. meeting_found x n es h apart.1 found)
  where
    by : (b : Bool) → meets x n e.1 ≡ b → (if b then Some e.1 else first_meeting x n es) ≡ Some h
        → (first_meeting x n es ≡ Some h → (k : Key) × (held_in es k ≡ Some h) × (meets x n h ≡ true)) → (k : Key) × (held_in (e ∷ es) k ≡ Some h) × (meets x n h ≡ true)
    by true at is more = (e.0, ap (λ b. if b then Some e.1 else held_in es e.0) (key_refl e.0) ∙ is, sym (ap (meets x n) (some_injective e.1 h is)) ∙ at)
    by false at is more =
        let z = more is in
        (z.0, ap (λ b. if b then Some e.1 else held_in es z.0) (apart.0 z.0 h z.1) ∙ z.1, z.2)

pub meeting_none : (x n : ℕ) (es : List (Key × Held)) → first_meeting x n es ≡ None → (k : Key) (h : Held) → held_in es k ≡ Some h → meets x n h ≡ false
meeting_none x n [] is k h found = absurd (cc)
meeting_none x n (e ∷ es) is k h found = by (meets x n e.1) refl is (key_eq e.0 k) refl found (λ none there. meeting_none x n es none k h there)
  where
    by : (b : Bool) → meets x n e.1 ≡ b → (if b then Some e.1 else first_meeting x n es) ≡ None → (d : Bool) → key_eq e.0 k ≡ d → (if d then Some e.1 else held_in es k) ≡ Some h
        → (first_meeting x n es ≡ None → held_in es k ≡ Some h → meets x n h ≡ false) → meets x n h ≡ false
    by true at is d same found more = absurd (cc)
    by false at is true same found more = sym (ap (meets x n) (some_injective e.1 h found)) ∙ at
    by false at is false same found more = more is found

-- ---- how many
key_there : (es : List (Key × Held)) (k : Key) (h : Held) → held_in es k ≡ Some h → Contains (keys_of es) k
key_there [] k h is = absurd (cc)
key_there (e ∷ es) k h is = by (key_eq e.0 k) refl is (λ found. key_there es k h found)
  where
    by : (b : Bool) → key_eq e.0 k ≡ b → (if b then Some e.1 else held_in es k) ≡ Some h → (held_in es k ≡ Some h → Contains (keys_of es) k) → Contains (e.0 ∷ keys_of es) k
    by true at is more = (0, omega arith, key_true e.0 k at)
    by false at is more = let z = more is in (suc z.0, (let l = z.1 in omega (arith, l)), z.2)

pub few_keys : (q : Core) (es : List (Key × Held)) (limit : ℕ) → q.held ≡ held_in es → length es < limit → HoldsFewer q limit
few_keys q es limit at less = record {
  keys = keys_of es;
  all = λ k h is. key_there es k h (ap (λ f. f k) (sym at) ∙ is);
  few = let same = length-keys_of es in omega (arith, same, less);
}

key_laws : IsEquivalence (eq_by_cmp key_cmp)
key_laws = grind (arith, nat_tests)

-- a member is held
member_held : (es : List (Key × Held)) (k : Key) → is_member (eq_by_cmp key_cmp) (keys_of es) k ≡ true → (h : Held) × (held_in es k ≡ Some h)
member_held [] k is = absurd (true≢false (sym is))
member_held (e ∷ es) k is = by (key_eq e.0 k) refl (λ there. member_held es k there)
  where
    turn : (a b : Key) → eq_by_cmp key_cmp a b ≡ key_eq b a
    turn a b = grind (arith, nat_tests)

    by : (b : Bool) → key_eq e.0 k ≡ b → (is_member (eq_by_cmp key_cmp) (keys_of es) k ≡ true → (h : Held) × (held_in es k ≡ Some h))
        → (h : Held) × ((if key_eq e.0 k then Some e.1 else held_in es k) ≡ Some h)
    by true at more = (e.1, ap (λ b. if b then Some e.1 else held_in es k) at)
    by false at more =
        let z = more (ap (λ b. b || is_member (eq_by_cmp key_cmp) (keys_of es) k) (sym (turn k e.0 ∙ at)) ∙ is) in
        (z.0, ap (λ b. if b then Some e.1 else held_in es k) at ∙ z.1)

there_member : (ks : List Key) (k : Key) → Contains ks k → is_member (eq_by_cmp key_cmp) ks k ≡ true
there_member [] k (i, less, at) = absurd (omega (arith, less))
there_member (x ∷ xs) k (zero, less, at) = let same : key_eq k x ≡ true = subst (λ y. key_eq k y ≡ true) (sym at) (key_refl k) in grind (arith, nat_tests)
there_member (x ∷ xs) k (suc i, less, at) = by (eq_by_cmp key_cmp k x) (there_member xs k (i, omega (arith, less), at))
  where
    by : (b : Bool) → is_member (eq_by_cmp key_cmp) xs k ≡ true → (b || is_member (eq_by_cmp key_cmp) xs k) ≡ true
    by true e = refl
    by false e = e

pub not_few : (q : Core) (es : List (Key × Held)) (limit : ℕ) → q.held ≡ held_in es → IsStrictlySortedBy key_cmp (keys_of es) → limit ≤ length es → HoldsFewer q limit → ⊥
not_few q es limit at sorted many few =
    let le = length-le_from_is_member key_laws (keys_of es) few.keys (IsDistinct-from_sorted key_cmp (keys_of es) sorted)
    (λ k is. let z = member_held es k is in there_member few.keys k (few.all k z.0 (ap (λ f. f k) at ∙ z.1))) in
    let same = length-keys_of es in
    let f = few.few in
    omega (arith, le, same, f, many)

pub meeting_head : (x n : ℕ) (e : Key × Held) (es : List (Key × Held)) → meets x n e.1 ≡ true → first_meeting x n (e ∷ es) ≡ Some e.1
meeting_head x n e es is = ap (λ b. if b then Some e.1 else first_meeting x n es) is

pub meeting_tail : (x n : ℕ) (e : Key × Held) (es : List (Key × Held)) → meets x n e.1 ≡ false → first_meeting x n (e ∷ es) ≡ first_meeting x n es
meeting_tail x n e es is = ap (λ b. if b then Some e.1 else first_meeting x n es) is

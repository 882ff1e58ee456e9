-- Missing columns: how many are missing, and which parity columns the data columns among them are solved from.
use Rattle.std.proofs.Common.{◌≡◌, ℕ, zero, suc, ◌+◌, ◌-◌, ◌*◌, ◌<◌, ◌≤◌, ◌∙◌, ◌⊎◌, inl, inr, Bool, true, false, ◌||◌, ◌==◌, cond, List, [], ◌∷◌, length, get_or, take, drop, refl, sym, ap, subst, arith}
use Rattle.std.specs.Prelude.{nat_le, count_by, Contains}
use Rattle.std.specs.List.Sorted.{IsStrictlyIncreasing}
use Rattle.std.proofs.lemmas.Bool.{cases_order, cases_lt, eqb-true, eq-eqb, le-leb, lt-leb}
use Rattle.std.proofs.lemmas.Bool.Decides.{nat_tests}
use Rattle.std.proofs.lemmas.List.{get_or-take, get_or-drop, length-take, length-drop}
use Rattle.std.proofs.lemmas.List.Folds.{list_any_at}
use Rattle.std.proofs.lemmas.List.Sums.{count_by-le-length, sum_by-cons}
use Rattle.draid_parity.specs.Columns.{ChosenSums, HasSum, IsChosen, is_missing, present_below}

-- ---- ascending lists
pub ascending_le : (xs : List ℕ) → IsStrictlyIncreasing xs → (n k : ℕ) → n ≤ k → k < length xs → get_or xs n 0 ≤ get_or xs k 0
ascending_le xs ascending n zero above below = let same : n ≡ 0 = omega arith in subst (λ i. get_or xs i 0 ≤ get_or xs 0 0) (sym same) (omega arith)
ascending_le xs ascending n (suc k) above below = cases (λ lower. ascending_le xs ascending n k lower (omega arith)) (cases_lt k n)
  where
    next : get_or xs k 0 < get_or xs (suc k) 0
    next =
        let turn : k + 1 ≡ suc k = omega arith in
        subst (λ i. get_or xs k 0 < get_or xs i 0) turn (ascending k (omega arith))

    cases : (n ≤ k → get_or xs n 0 ≤ get_or xs k 0) → (k < n) ⊎ (n ≤ k) → get_or xs n 0 ≤ get_or xs (suc k) 0
    cases before (inl past) = let same : n ≡ suc k = omega arith in subst (λ i. get_or xs i 0 ≤ get_or xs (suc k) 0) (sym same) (omega arith)
    cases before (inr lower) = let rest = before lower in omega (arith, rest, next)

-- ---- the test for a missing column
pub contains-from_test : (xs : List ℕ) (k : ℕ) → is_missing xs k ≡ true → Contains xs k
contains-from_test [] k h = cc
contains-from_test (x ∷ xs) k h = cases (contains-from_test xs k) (x == k) refl h
  where
    cases : (is_missing xs k ≡ true → Contains xs k) → (b : Bool) → (x == k) ≡ b → (b || is_missing xs k) ≡ true → Contains (x ∷ xs) k
    cases later true e h = (0, omega arith, eqb-true x k e)
    cases later false e h = let rest = later h in (suc rest.0, (let below = rest.1 in omega arith), rest.2)

pub test-from_contains : (xs : List ℕ) (k : ℕ) → Contains xs k → is_missing xs k ≡ true
test-from_contains xs k found = list_any_at (λ m. m == k) xs found.0 k found.1 (eq-eqb _ k found.2)

pub test-from_absent : (xs : List ℕ) (k : ℕ) → (Contains xs k → ⊥) → is_missing xs k ≡ false
test-from_absent xs k absent = cases (is_missing xs k) refl
  where
    cases : (b : Bool) → is_missing xs k ≡ b → b ≡ false
    cases true e = absurd (absent (contains-from_test xs k e))
    cases false e = refl

-- ---- how many columns are there below one
pub present-missing : (xs : List ℕ) (k : ℕ) → is_missing xs k ≡ true → present_below xs (suc k) ≡ present_below xs k
unfolding present_below
present-missing xs k h = ap (λ b. present_below xs k + cond b 0 1) h ∙ omega arith

pub present-there : (xs : List ℕ) (k : ℕ) → is_missing xs k ≡ false → present_below xs (suc k) ≡ present_below xs k + 1
unfolding present_below
present-there xs k h = ap (λ b. present_below xs k + cond b 0 1) h

present_step : (xs : List ℕ) (k : ℕ) → (present_below xs k ≤ present_below xs (suc k)) × (present_below xs (suc k) ≤ present_below xs k + 1)
present_step xs k = cases (is_missing xs k) refl
  where
    cases : (b : Bool) → is_missing xs k ≡ b → (present_below xs k ≤ present_below xs (suc k)) × (present_below xs (suc k) ≤ present_below xs k + 1)
    cases true e = let same = present-missing xs k e in (omega (arith, same), omega (arith, same))
    cases false e = let more = present-there xs k e in (omega (arith, more), omega (arith, more))

pub present_grows : (xs : List ℕ) (a b : ℕ) → a ≤ b → (present_below xs a ≤ present_below xs b) × (present_below xs b ≤ present_below xs a + (b - a))
present_grows xs a zero above =
    let same : a ≡ 0 = omega arith in
    subst (λ i. (present_below xs i ≤ present_below xs 0) × (present_below xs 0 ≤ present_below xs i + (0 - i))) (sym same) (omega arith, omega arith)
present_grows xs a (suc b) above = cases (present_grows xs a b) (cases_lt b a)
  where
    cases : (a ≤ b → (present_below xs a ≤ present_below xs b) × (present_below xs b ≤ present_below xs a + (b - a))) → (b < a) ⊎ (a ≤ b) → (present_below xs a ≤ present_below xs (suc b)) × (present_below xs (suc b) ≤ present_below xs a + (suc b - a))
    cases before (inl past) =
        let same : a ≡ suc b = omega arith in
        subst (λ i. (present_below xs i ≤ present_below xs (suc b)) × (present_below xs (suc b) ≤ present_below xs i + (suc b - i))) (sym same)
        (omega arith, omega arith)
    cases before (inr lower) =
        let rest = before lower in
        let step = present_step xs b in
        (omega (arith, rest.0, step.0), omega (arith, rest.1, step.1))

pub present_zero : (xs : List ℕ) → present_below xs 0 ≡ 0
unfolding present_below
present_zero xs = refl

-- more columns are there below a later one
present_strict : (xs : List ℕ) (a b : ℕ) → a < b → (Contains xs a → ⊥) → present_below xs a < present_below xs b
present_strict xs a b order there =
    let more = present-there xs a (test-from_absent xs a there) in
    let rest = present_grows xs (suc a) b (omega arith) in
    omega (arith, more, rest.0)

pub present_one : (xs : List ℕ) (a b : ℕ) → (Contains xs a → ⊥) → (Contains xs b → ⊥) → present_below xs a ≡ present_below xs b → a ≡ b
present_one xs a b a_there b_there same = cases (cases_order a b)
  where
    cases : (a ≡ b) ⊎ ((a < b) ⊎ (b < a)) → a ≡ b
    cases (inl e) = e
    cases (inr (inl l)) = let less = present_strict xs a b l a_there in absurd (omega (arith, less, same))
    cases (inr (inr g)) = let less = present_strict xs b a g b_there in absurd (omega (arith, less, same))

-- ---- enough columns are there
one_place : (n x : ℕ) → cond (nat_le (suc n) x) 1 0 + cond (x == n) 1 0 ≤ cond (nat_le n x) 1 0
one_place n x = grind (arith, nat_tests)

joined : (a b : Bool) → cond (a || b) 1 0 ≤ cond a 1 0 + cond b 1 0
joined true b = omega arith
joined false b = omega arith

weave : (p q r a b u t v w : ℕ) → v ≡ p + a → w ≡ r + b → p + q ≤ r → a + u ≤ b → t ≤ q + u → v + t ≤ w
weave p q r a b u t v w lower upper own rest test = omega arith

count_step : (n : ℕ) (xs : List ℕ) → count_by (λ i. nat_le (suc n) i) xs + cond (is_missing xs n) 1 0 ≤ count_by (λ i. nat_le n i) xs
count_step n [] = omega arith
count_step n (x ∷ xs) =
    weave (cond (nat_le (suc n) x) 1 0) (cond (x == n) 1 0) (cond (nat_le n x) 1 0) (count_by (λ i. nat_le (suc n) i) xs)
    (count_by (λ i. nat_le n i) xs) (cond (is_missing xs n) 1 0) (cond ((x == n) || is_missing xs n) 1 0) _ _
    (sum_by-cons (λ i. cond (nat_le (suc n) i) 1 0) x xs) (sum_by-cons (λ i. cond (nat_le n i) 1 0) x xs)
    (one_place n x) (count_step n xs) (joined (x == n) (is_missing xs n))

pub enough_present : (xs : List ℕ) (n : ℕ) → n + count_by (λ i. nat_le n i) xs ≤ present_below xs n + length xs
enough_present xs zero = let few = count_by-le-length (λ i. nat_le 0 i) xs in omega (arith, few)
enough_present xs (suc n) = cases (enough_present xs n) (is_missing xs n) refl
  where
    cases : n + count_by (λ i. nat_le n i) xs ≤ present_below xs n + length xs → (b : Bool) → is_missing xs n ≡ b → suc n + count_by (λ i. nat_le (suc n) i) xs ≤ present_below xs (suc n) + length xs
    cases rest true e =
        let step = subst (λ b. count_by (λ i. nat_le (suc n) i) xs + cond b 1 0 ≤ count_by (λ i. nat_le n i) xs) e (count_step n xs) in
        let same = present-missing xs n e in
        omega (arith, step, same, rest)
    cases rest false e =
        let step = subst (λ b. count_by (λ i. nat_le (suc n) i) xs + cond b 1 0 ≤ count_by (λ i. nat_le n i) xs) e (count_step n xs) in
        let more = present-there xs n e in
        omega (arith, step, more, rest)

-- ---- the missing data columns are the last ones of an ascending list
pub count_split : (p : ℕ) (xs : List ℕ) (s : ℕ) → s ≤ length xs → ((n : ℕ) → n < s → get_or xs n 0 < p)
    → ((n : ℕ) → s ≤ n → n < length xs → p ≤ get_or xs n 0) → count_by (λ i. nat_le p i) xs + s ≡ length xs
count_split p [] s bound low high = omega arith
count_split p (x ∷ xs) zero bound low high =
    let rest = count_split p xs zero (omega arith) (λ n below. absurd (omega arith)) (λ n above below. high (suc n) (omega arith) (omega arith)) in
    let own : cond (nat_le p x) 1 0 ≡ 1 = ap {B = ℕ} (λ b. cond b 1 0) (le-leb p x (high 0 (omega arith) (omega arith))) in
    let more : count_by (λ i. nat_le p i) (x ∷ xs) ≡ cond (nat_le p x) 1 0 + count_by (λ i. nat_le p i) xs =
    sum_by-cons (λ i. cond (nat_le p i) 1 0) x xs in
    omega (arith, rest, own, more)
count_split p (x ∷ xs) (suc s) bound low high =
    let rest = count_split p xs s (omega arith) (λ n below. low (suc n) (omega arith)) (λ n above below. high (suc n) (omega arith) (omega arith)) in
    let own : cond (nat_le p x) 1 0 ≡ 0 = ap {B = ℕ} (λ b. cond b 1 0) (lt-leb p x (low 0 (omega arith))) in
    let more : count_by (λ i. nat_le p i) (x ∷ xs) ≡ cond (nat_le p x) 1 0 + count_by (λ i. nat_le p i) xs =
    sum_by-cons (λ i. cond (nat_le p i) 1 0) x xs in
    omega (arith, rest, own, more)

-- ---- one, two and three missing data columns
pub chosen_one : (parity : ℕ) (xs : List ℕ) (columns : List (List ℕ)) (k : ℕ) → count_by (λ i. nat_le parity i) xs ≡ 1 → k < parity
    → (Contains xs k → ⊥) → present_below xs k ≡ present_below xs 0 → HasSum parity columns k → ChosenSums parity xs columns
chosen_one parity xs columns k many below there lowest sum =
    let none = present_zero xs in
    record {
      sums = λ i chosen.
          let first = chosen.lowest in
          let same = present_one xs k i there chosen.present (omega (arith, lowest, first, many, none)) in
          subst (HasSum parity columns) same sum;
      first = k;
      step = 1;
      steps = (omega arith, omega arith);
      chosen = λ t t_below.
          let same : k ≡ k + 1 * t = omega (arith, t_below, many) in
          subst (IsChosen parity xs) same (record { in_range = below; present = there; lowest = omega (arith, lowest, many, none) });
    }

pub chosen_two : (parity : ℕ) (xs : List ℕ) (columns : List (List ℕ)) (k l : ℕ) → parity ≤ 3 → count_by (λ i. nat_le parity i) xs ≡ 2
    → k < l → l < parity → (Contains xs k → ⊥) → (Contains xs l → ⊥)
    → present_below xs k ≡ present_below xs 0 → present_below xs l ≡ present_below xs (k + 1)
    → HasSum parity columns k × HasSum parity columns l → ChosenSums parity xs columns
chosen_two parity xs columns k l kind many order below k_there l_there lowest second both = record {
  sums = λ i chosen. cases i chosen (cases_order (present_below xs i) 0);
  first = k;
  step = l - k;
  steps = (omega arith, omega arith);
  chosen = λ t t_below. places t (omega (arith, t_below, many));
}
  where
    none : present_below xs 0 ≡ 0
    none = present_zero xs

    one : present_below xs l ≡ 1
    one =
        let more = present-there xs k (test-from_absent xs k k_there) in
        let turn : k + 1 ≡ suc k = omega arith in
        let moved = ap (present_below xs) turn in
        omega (arith, more, moved, second, lowest, none)

    cases : (i : ℕ) → IsChosen parity xs i → (present_below xs i ≡ 0) ⊎ ((present_below xs i < 0) ⊎ (0 < present_below xs i)) → HasSum parity columns i
    cases i chosen (inl e) =
        subst (HasSum parity columns) (present_one xs k i k_there chosen.present (omega (arith, lowest, none, e))) both.0
    cases i chosen (inr (inl l)) = absurd (omega arith)
    cases i chosen (inr (inr g)) =
        let lower = chosen.lowest in
        subst (HasSum parity columns) (present_one xs l i l_there chosen.present (omega (arith, one, g, lower, many))) both.1

    places : (t : ℕ) → t < 2 → IsChosen parity xs (k + (l - k) * t)
    places zero t_below =
        let same : k ≡ k + (l - k) * 0 = omega arith in
        subst (IsChosen parity xs) same (record { in_range = omega arith; present = k_there; lowest = omega (arith, lowest, none, many) })
    places (suc zero) t_below =
        let same : l ≡ k + (l - k) * 1 = omega arith in
        subst (IsChosen parity xs) same (record { in_range = below; present = l_there; lowest = omega (arith, one, many) })
    places (suc (suc t)) t_below = absurd (omega arith)

three_chosen : (xs : List ℕ) (columns : List (List ℕ)) → count_by (λ i. nat_le 3 i) xs ≡ 3 → length xs ≤ 3
    → ((k : ℕ) → k < 3 → HasSum 3 columns k) → ChosenSums 3 xs columns
three_chosen xs columns many few sums = record {
  sums = λ k chosen. sums k chosen.in_range;
  first = 0;
  step = 1;
  steps = (omega arith, omega arith);
  chosen = λ t t_below. (let same : t ≡ 0 + 1 * t = omega arith in subst (IsChosen 3 xs) same (each t (omega (arith, t_below, many))));
}
  where
    all : 3 ≤ present_below xs 3
    all = let enough = enough_present xs 3 in omega (arith, enough, many, few)

    each : (k : ℕ) → k < 3 → IsChosen 3 xs k
    each k below = record {
      in_range = below;
      present = λ lost.
          let same = present-missing xs k (test-from_contains xs k lost) in
          let upto = present_grows xs 0 k (omega arith) in
          let after = present_grows xs (suc k) 3 (omega arith) in
          let none = present_zero xs in
          omega (arith, same, upto.1, after.1, all, none);
      lowest =
          let upto = present_grows xs 0 k (omega arith) in
          let none = present_zero xs in
          omega (arith, upto.1, none, many);
    }

pub chosen_three : (parity : ℕ) (xs : List ℕ) (columns : List (List ℕ)) → parity ≡ 3 → count_by (λ i. nat_le parity i) xs ≡ 3 → length xs ≤ 3
    → ((k : ℕ) → k < 3 → HasSum 3 columns k) → ChosenSums parity xs columns
chosen_three parity xs columns triple many few sums =
    subst (λ p. ChosenSums p xs columns) (sym triple)
    (three_chosen xs columns (sym (ap (λ p. count_by (λ i. nat_le p i) xs) triple) ∙ many) few sums)

-- ---- parts of the list
pub contains-take : (xs : List ℕ) (s k : ℕ) → Contains (take s xs) k → Contains xs k
contains-take xs s k found = cases (found.0, found.1, found.2)
  where
    cases : (n : ℕ) × (n < length (take s xs)) × (get_or (take s xs) n k ≡ k) → Contains xs k
    cases (n, below, is) =
        let short = length-take s xs in
        let early : n < s = omega (arith, below, short) in
        (n, omega (arith, below, short), sym (get_or-take s xs n k early) ∙ is)

pub contains-drop : (xs : List ℕ) (s k : ℕ) → Contains (drop s xs) k → Contains xs k
contains-drop xs s k found = cases (found.0, found.1, found.2)
  where
    cases : (n : ℕ) × (n < length (drop s xs)) × (get_or (drop s xs) n k ≡ k) → Contains xs k
    cases (n, below, is) =
        let short = length-drop s xs in
        (s + n, omega (arith, below, short), sym (get_or-drop s xs n k) ∙ is)

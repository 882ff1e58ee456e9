-- Laws of ascending lists of places.
use Rattle.std.proofs.Common.{◌≡◌, ℕ, zero, suc, ◌+◌, ◌<◌, ◌≤◌, Bool, true, false, List, [], ◌∷◌, ◌++◌, refl, ap, arith, nat_lt, nat_eq, if◌then◌else◌}
use Rattle.std.proofs.lemmas.Bool.Decides.{nat_tests}
use Rattle.std.proofs.lemmas.List.Sums.{sum_by-append, sum_by-cons}
use mathlib.Core.Logic.{dite}
use native.Mathlib.Decide.{ℕ_discrete}
use Rattle.draid_turn.specs.Lists.{AllAbove, Ascends, merge, one_if, one_within, places, times, with_place}
use Rattle.draid_turn.proofs.Sums.{one_if_same, within_bounds, within_down}

pub times_cons : (x y : ℕ) (ys : List ℕ) → times x (y ∷ ys) ≡ one_if (nat_eq y x) + times x ys
times_cons x y ys = sum_by-cons (λ z. one_if (nat_eq z x)) y ys

pub times_append : (x : ℕ) (xs ys : List ℕ) → times x (xs ++ ys) ≡ times x xs + times x ys
times_append x xs ys = sum_by-append (λ z. one_if (nat_eq z x)) xs ys

pub times_places : (x from n : ℕ) → times x (places from n) ≡ one_within from (from + n) x
times_places x from zero = grind (arith, nat_tests)
times_places x from (suc n) =
    let first = times_cons x from (places (suc from) n) in
    let rest = times_places x (suc from) n in
    let down = within_down from (from + suc n) (suc from) x (omega arith) (omega arith) in
    let same : one_within (suc from) (suc from + n) x ≡ one_within (suc from) (from + suc n) x = ap (λ k. one_within (suc from) k x) (omega arith) in
    omega (arith, first, rest, down, same)

above_less : (x y : ℕ) (ys : List ℕ) → x < y → AllAbove y ys → AllAbove x ys
above_less x y [] less above = tt
above_less x y (z ∷ zs) less above = let first = above.0 in (omega (arith, less, first), above_less x y zs less above.1)

above_append : (x : ℕ) (xs ys : List ℕ) → AllAbove x xs → AllAbove x ys → AllAbove x (xs ++ ys)
above_append x [] ys a b = b
above_append x (y ∷ xs) ys a b = (a.0, above_append x xs ys a.1 b)

above_places : (x from n : ℕ) → x < from → AllAbove x (places from n)
above_places x from zero less = tt
above_places x from (suc n) less = (less, above_places x (suc from) n (omega (arith, less)))

ascends_places : (from n : ℕ) → Ascends (places from n)
ascends_places from zero = tt
ascends_places from (suc n) = (above_places from (suc from) n (omega arith), ascends_places (suc from) n)

-- places go behind a list of lower ones
pub ascends_more : (xs : List ℕ) (from n : ℕ) → ((x : ℕ) → 1 ≤ times x xs → x < from) → Ascends xs → Ascends (xs ++ places from n)
ascends_more [] from n low ascends = ascends_places from n
ascends_more (x ∷ xs) from n low ascends =
    let same = one_if_same x in
    let here = times_cons x x xs in
    let less : x < from = low x (omega (arith, same, here)) in (
      above_append x xs (places from n) ascends.0 (above_places x from n less),
      ascends_more xs from n (λ y h. low y (let more = times_cons y x xs in omega (arith, h, more))) ascends.1,
    )

choose : (P : List ℕ → Type 0) (b : Bool) (p q : List ℕ) → (b ≡ true → P p) → (b ≡ false → P q) → P (if b then p else q)
choose P true p q first second = first refl
choose P false p q first second = second refl

times_with : (x y : ℕ) (ys : List ℕ) → times x (with_place y ys) ≡ one_if (nat_eq y x) + times x ys
times_with x y [] = times_cons x y []
times_with x y (z ∷ zs) = choose (λ l. times x l ≡ one_if (nat_eq y x) + times x (z ∷ zs)) (nat_lt y z) (y ∷ z ∷ zs) (z ∷ with_place y zs)
    (λ _. times_cons x y (z ∷ zs))
    (λ _.
    let rest = times_with x y zs in
    let new = times_cons x z (with_place y zs) in
    let old = times_cons x z zs in omega (arith, rest, new, old))

pub times_merge : (x : ℕ) (xs ys : List ℕ) → times x (merge xs ys) ≡ times x xs + times x ys
times_merge x [] ys = omega arith
times_merge x (y ∷ xs) ys =
    let rest = times_merge x xs ys in
    let first = times_with x y (merge xs ys) in
    let old = times_cons x y xs in omega (arith, rest, first, old)

above_with : (z y : ℕ) (ys : List ℕ) → z < y → AllAbove z ys → AllAbove z (with_place y ys)
above_with z y [] less above = (less, tt)
above_with z y (x ∷ xs) less above = choose (AllAbove z) (nat_lt y x) (y ∷ x ∷ xs) (x ∷ with_place y xs) (λ _. (less, above)) (λ _. (above.0, above_with z y xs less above.1))

ascends_with : (y : ℕ) (ys : List ℕ) → times y ys ≡ 0 → Ascends ys → Ascends (with_place y ys)
ascends_with y [] none ascends = (tt, tt)
ascends_with y (z ∷ zs) none ascends =
    let here = times_cons y z zs in
    choose Ascends (nat_lt y z) (y ∷ z ∷ zs) (z ∷ with_place y zs)
    (λ is. let less : y < z = grind (arith, nat_tests) in ((less, above_less y z zs less ascends.0), ascends))
    (λ isnt.
    let apart : one_if (nat_eq z y) ≡ 0 = omega (arith, none, here) in
    let less : z < y = grind (arith, nat_tests) in (above_with z y zs less ascends.0, ascends_with y zs (omega (arith, none, here)) ascends.1))

pub ascends_merge : (xs ys : List ℕ) → ((x : ℕ) → times x xs + times x ys ≤ 1) → Ascends xs → Ascends ys → Ascends (merge xs ys)
ascends_merge [] ys apart a b = b
ascends_merge (x ∷ xs) ys apart a b =
    let same = one_if_same x in
    let here = times_cons x x xs in
    let once = apart x in
    let all = times_merge x xs ys in
    ascends_with x (merge xs ys) (omega (arith, same, here, once, all))
    (ascends_merge xs ys (λ y. let h = apart y in let more = times_cons y x xs in omega (arith, h, more)) a.1 b)

above_times : (x y : ℕ) (ys : List ℕ) → AllAbove x ys → 1 ≤ times y ys → x < y
above_times x y [] above h = absurd (omega (arith, h))
above_times x y (z ∷ zs) above h = dite (ℕ_discrete z y) (λ is. let first = above.0 in omega (arith, is, first))
    (λ isnt.
    let none : one_if (nat_eq z y) ≡ 0 = grind (arith, nat_tests) in
    let here = times_cons y z zs in above_times x y zs above.1 (omega (arith, h, none, here)))

-- an ascending list with just these places is the places in order
pub all_places : (xs : List ℕ) (low n : ℕ) → Ascends xs → ((x : ℕ) → times x xs ≡ one_within low (low + n) x) → xs ≡ places low n
all_places [] low zero ascends just = refl
all_places [] low (suc n) ascends just = let none : 0 ≡ one_within low (low + suc n) low = just low in absurd (grind (arith, nat_tests))
all_places (x ∷ xs) low zero ascends just =
    let same = one_if_same x in
    let here = times_cons x x xs in
    let is = just x in
    let bounds = within_bounds low (low + 0) x (omega (arith, same, here, is)) in
    let above = bounds.0 in
    let below = bounds.1 in absurd (omega (arith, above, below))
all_places (x ∷ xs) low (suc n) ascends just =
    let same = one_if_same x in
    let here = times_cons x x xs in
    let is = just x in
    let bounds = within_bounds low (low + suc n) x (omega (arith, same, here, is)) in
    let above = bounds.0 in
    let first : x ≡ low = dite (ℕ_discrete x low) (λ e. e)
    (λ isnt.
    let none : one_if (nat_eq x low) ≡ 0 = grind (arith, nat_tests) in
    let there = times_cons low x xs in
    let low_is = just low in
    let one : one_within low (low + suc n) low ≡ 1 = grind (arith, nat_tests) in
    let less = above_times x low xs ascends.0 (omega (arith, none, there, low_is, one)) in absurd (omega (arith, less, above))) in
    let rest : xs ≡ places (suc low) n = all_places xs (suc low) n ascends.1
    (λ y.
    let there = times_cons y x xs in
    let y_is = just y in
    let down = within_down low (low + suc n) (suc low) y (omega arith) (omega arith) in
    let bit : one_if (nat_eq x y) ≡ one_if (nat_eq low y) = ap (λ k. one_if (nat_eq k y)) first in
    let end : one_within (suc low) (suc low + n) y ≡ one_within (suc low) (low + suc n) y = ap (λ k. one_within (suc low) k y) (omega arith) in
    omega (arith, there, y_is, down, bit, end)) in
    λ k. first k ∷ rest k

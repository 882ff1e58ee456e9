-- Sums and counts over a list in which one element changes, and the numbers from one bound to another.
use Rattle.std.proofs.Common.{◌≡◌, ◌≢◌, ℕ, zero, suc, ◌+◌, ◌<◌, ◌≤◌, Bool, List, [], ◌∷◌, ◌++◌, set, sym, refl, ap, subst, arith, ⊎_elim, nat_eq}
use Rattle.std.specs.Prelude.{count_by, sum_by}
use Rattle.std.proofs.lemmas.Bool.Decides.{nat_tests}
use Rattle.std.proofs.lemmas.List.Sums.{sum_by-cons, sum_by_push}
use mathlib.Core.Option.{some, some-injective, some-ne-none}
use lib.ListN.{get_elem?}
use Rattle.atomic_table.proofs.Lists.{at_set, at_snoc}
use Rattle.draid_turn.specs.Lists.{Each, one_if, one_within}

module _ {V : Type 0} (f : V → ℕ) where
  pub sum_set : (vs : List V) (i : ℕ) (v w : V) → get_elem? vs i ≡ some v → sum_by f (set vs i w) + f v ≡ sum_by f vs + f w
  sum_set [] i v w e = absurd (some-ne-none v (sym e))
  sum_set (x ∷ xs) zero v w e =
      let is : f x ≡ f v = ap f (some-injective x v e) in
      let old = sum_by-cons f x xs in
      let new = sum_by-cons f w xs in omega (arith, is, old, new)
  sum_set (x ∷ xs) (suc i) v w e =
      let rest = sum_set xs i v w e in
      let old = sum_by-cons f x xs in
      let new = sum_by-cons f x (set xs i w) in omega (arith, rest, old, new)

  pub sum_at : (vs : List V) (i : ℕ) (v : V) → get_elem? vs i ≡ some v → f v ≤ sum_by f vs
  sum_at [] i v e = absurd (some-ne-none v (sym e))
  sum_at (x ∷ xs) zero v e = let is : f x ≡ f v = ap f (some-injective x v e) in let all = sum_by-cons f x xs in omega (arith, is, all)
  sum_at (x ∷ xs) (suc i) v e = let rest = sum_at xs i v e in let all = sum_by-cons f x xs in omega (arith, rest, all)

  pub sum_two : (vs : List V) (i j : ℕ) (v w : V) → i ≢ j → get_elem? vs i ≡ some v → get_elem? vs j ≡ some w → f v + f w ≤ sum_by f vs
  sum_two [] i j v w apart e e' = absurd (some-ne-none v (sym e))
  sum_two (x ∷ xs) zero zero v w apart e e' = absurd (apart refl)
  sum_two (x ∷ xs) zero (suc j) v w apart e e' =
      let is : f x ≡ f v = ap f (some-injective x v e) in
      let rest = sum_at xs j w e' in
      let all = sum_by-cons f x xs in omega (arith, is, rest, all)
  sum_two (x ∷ xs) (suc i) zero v w apart e e' =
      let is : f x ≡ f w = ap f (some-injective x w e') in
      let rest = sum_at xs i v e in
      let all = sum_by-cons f x xs in omega (arith, is, rest, all)
  sum_two (x ∷ xs) (suc i) (suc j) v w apart e e' =
      let rest = sum_two xs i j v w (λ is. apart (ap suc is)) e e' in
      let all = sum_by-cons f x xs in omega (arith, rest, all)

  sum_none : (vs : List V) → ((j : ℕ) (d : V) → get_elem? vs j ≡ some d → f d ≡ 0) → sum_by f vs ≡ 0
  sum_none [] none = refl
  sum_none (x ∷ xs) none =
      let first = none 0 x refl in
      let rest = sum_none xs (λ j d e. none (suc j) d e) in
      let all = sum_by-cons f x xs in omega (arith, first, rest, all)

  -- where all others have none, the sum is that of one
  pub sum_only : (vs : List V) (i : ℕ) (v : V) → get_elem? vs i ≡ some v → ((j : ℕ) (d : V) → j ≢ i → get_elem? vs j ≡ some d → f d ≡ 0) → sum_by f vs ≡ f v
  sum_only [] i v e none = absurd (some-ne-none v (sym e))
  sum_only (x ∷ xs) zero v e none =
      let is : f x ≡ f v = ap f (some-injective x v e) in
      let rest = sum_none xs (λ j d at. none (suc j) d (λ k. omega arith) at) in
      let all = sum_by-cons f x xs in omega (arith, is, rest, all)
  sum_only (x ∷ xs) (suc i) v e none =
      let first = none 0 x (λ k. omega arith) refl in
      let rest = sum_only xs i v e (λ j d n at. none (suc j) d (λ k. n (omega (arith, k))) at) in
      let all = sum_by-cons f x xs in omega (arith, first, rest, all)

module _ {V : Type 0} (test : V → Bool) where
  abbrev one_of : V → ℕ
  one_of v = one_if (test v)

  pub count_set : (vs : List V) (i : ℕ) (v w : V) → get_elem? vs i ≡ some v → count_by test (set vs i w) + one_if (test v) ≡ count_by test vs + one_if (test w)
  count_set vs i v w e = sum_set one_of vs i v w e

  pub count_push : (vs : List V) (w : V) → count_by test (vs ++ w ∷ []) ≡ count_by test vs + one_if (test w)
  count_push vs w = sum_by_push one_of vs w

  pub count_at : (vs : List V) (i : ℕ) (v : V) → get_elem? vs i ≡ some v → one_if (test v) ≤ count_by test vs
  count_at vs i v e = sum_at one_of vs i v e

  pub count_two : (vs : List V) (i j : ℕ) (v w : V) → i ≢ j → get_elem? vs i ≡ some v → get_elem? vs j ≡ some w → one_if (test v) + one_if (test w) ≤ count_by test vs
  count_two vs i j v w apart e e' = sum_two one_of vs i j v w apart e e'

  pub count_one : (w : V) → count_by test (w ∷ []) ≡ one_if (test w)
  count_one w = let all = sum_by-cons one_of w [] in omega (arith, all)

module _ {V : Type 0} where
  -- one was changed
  pub each_set : (P Q : V → Type 0) (vs : List V) (i : ℕ) (w : V) → Each P vs → ((j : ℕ) (d : V) → j ≢ i → get_elem? vs j ≡ some d → P d → Q d) → Q w → Each Q (set vs i w)
  each_set P Q vs i w all others new j d e = ⊎_elim
      (λ (t : (j ≡ i) × (w ≡ d)). subst Q t.1 new)
      (λ (t : (j ≢ i) × (get_elem? vs j ≡ some d)). others j d t.0 t.1 (all j d t.1))
      (at_set vs i j w d e)

  -- one came behind them
  pub each_push : (P : V → Type 0) (vs : List V) (w : V) → Each P vs → P w → Each P (vs ++ w ∷ [])
  each_push P vs w all new j d e = ⊎_elim (λ (t : get_elem? vs j ≡ some d). all j d t) (λ (t : w ≡ d). subst P t new) (at_snoc vs w d j e)

pub within_up : (low high new n : ℕ) → new ≡ high + 1 → low ≤ high → one_within low new n ≡ one_within low high n + one_if (nat_eq high n)
within_up low high new n up le = grind (arith, nat_tests)

pub within_down : (low high new n : ℕ) → new ≡ low + 1 → low < high → one_within low high n ≡ one_within new high n + one_if (nat_eq low n)
within_down low high new n up le = grind (arith, nat_tests)

pub within_bounds : (low high n : ℕ) → 1 ≤ one_within low high n → (low ≤ n) × (n < high)
within_bounds low high n h = (grind (arith, nat_tests), grind (arith, nat_tests))

pub within_most : (low high n : ℕ) → one_within low high n ≤ 1
within_most low high n = grind (arith, nat_tests)

pub within_more : (low mid high n : ℕ) → low ≤ mid → mid ≤ high → one_within low high n ≡ one_within low mid n + one_within mid high n
within_more low mid high n a b = grind (arith, nat_tests)

pub within_empty : (low n : ℕ) → one_within low low n ≡ 0
within_empty low n = grind (arith, nat_tests)

pub one_if_same : (n : ℕ) → one_if (nat_eq n n) ≡ 1
one_if_same n = grind (arith, nat_tests)

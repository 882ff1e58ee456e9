-- Leaves that are named as failed, and what counts the failures.
use Rattle.std.proofs.Common.{◌≡◌, ◌==◌, ◌+◌, ◌-◌, ◌≤◌, ◌^◌, ◌||◌, ◌∙◌, ◌++◌, ℕ, Bool, true, false, List, [], ◌∷◌, Option, Some, arith, refl, sym, ap, subst, min, count_by, cond, length}
use Rattle.std.proofs.lemmas.List.{length-append}
use Rattle.std.proofs.lemmas.List.Sums.{sum_by-append}
use Rattle.draid_names.specs.Faults.{Rose}
use Rattle.draid_machine.specs.Names.{has_number}
use Rattle.draid_machine.proofs.Small.{is_equal}
use Rattle.draid_shard.specs.Calls.{CountsFailed}

-- ---- lists

pub number_more : (xs : List ℕ) (x leaf : ℕ) → has_number (xs ++ x ∷ []) leaf ≡ (has_number xs leaf || (x == leaf))
number_more [] x leaf = by (x == leaf)
  where
    by : (b : Bool) → (b || false) ≡ b
    by true = refl
    by false = refl
number_more (y ∷ ys) x leaf = by (y == leaf) (number_more ys x leaf)
  where
    by : (b : Bool) → has_number (ys ++ x ∷ []) leaf ≡ (has_number ys leaf || (x == leaf)) → (b || has_number (ys ++ x ∷ []) leaf) ≡ ((b || has_number ys leaf) || (x == leaf))
    by true e = refl
    by false e = e

pub longer : {A : Type 0} (xs : List A) (x : A) (n : ℕ) → length xs ≤ n → length (xs ++ x ∷ []) ≤ n + 1
longer xs x n e = let same : length (xs ++ x ∷ []) ≡ length xs + 1 = length-append xs (x ∷ []) in omega (arith, e, same)

-- ---- counts

count_more : (p : ℕ → Bool) (xs : List ℕ) (x : ℕ) → count_by p (xs ++ x ∷ []) ≡ count_by p xs + cond (p x) 1 0
count_more p xs x = sum_by-append (λ y. cond (p y) 1 0) xs (x ∷ []) ∙ ap (λ n. count_by p xs + n) (omega arith)

rises : (a n b c most : ℕ) → min (a + n) most ≤ b → min (b + 1) most ≤ c → min (a + (n + 1)) most ≤ c
rises a n b c most e f = omega (arith, e, f)

stays : (a n b c most : ℕ) → min (a + n) most ≤ b → b ≤ c → min (a + (n + 0)) most ≤ c
stays a n b c most e f = omega (arith, e, f)

pub counts_none : (old : Option ℕ → ℕ) → CountsFailed [] old old
counts_none old = record { later = λ who. omega arith; cause = λ leaf. omega arith }

pub counts_kept : (failed : List ℕ) (old mid new : Option ℕ → ℕ) → CountsFailed failed old mid → ((who : Option ℕ) → mid who ≤ new who) → CountsFailed failed old new
counts_kept failed old mid new h later = record {
  later = λ who. let a = h.later who in let b = later who in omega (arith, a, b);
  cause = λ l. let a = h.cause l in let b = later (Some l) in omega (arith, a, b);
}

pub counts_more : (failed : List ℕ) (leaf : ℕ) (old mid new : Option ℕ → ℕ) → CountsFailed failed old mid → ((who : Option ℕ) → mid who ≤ new who) → Rose (mid (Some leaf)) (new (Some leaf))
    → CountsFailed (failed ++ leaf ∷ []) old new
counts_more failed leaf old mid new h later rose = record {
  later = λ who. let a = h.later who in let b = later who in omega (arith, a, b);
  cause = λ l. subst (λ n. min (old (Some l) + n) (2 ^ 64 - 1) ≤ new (Some l)) (sym (count_more (λ x. x == l) failed leaf)) (by l (leaf == l) refl);
}
  where
    by : (l : ℕ) (b : Bool) → (leaf == l) ≡ b → min (old (Some l) + (count_by (λ x. x == l) failed + cond b 1 0)) (2 ^ 64 - 1) ≤ new (Some l)
    by l true is =
        let same : leaf ≡ l = is_equal leaf l is in
        rises (old (Some l)) (count_by (λ x. x == l) failed) (mid (Some l)) (new (Some l)) (2 ^ 64 - 1) (h.cause l) (subst (λ x. Rose (mid (Some x)) (new (Some x))) same rose)
    by l false is = stays (old (Some l)) (count_by (λ x. x == l) failed) (mid (Some l)) (new (Some l)) (2 ^ 64 - 1) (h.cause l) (later (Some l))

-- Leaves are flushed one after another.
use Rattle.std.proofs.Common.{arith, ◌≡◌, ◌==◌, ◌+◌, ◌-◌, ◌^◌, ◌≤◌, ◌⊎◌, ◌||◌, ℕ, Bool, true, false, List, [], ◌∷◌, ◌++◌, Option, Some, None, min, count_by, option_map, refl, ap, sym, ◌∙◌, subst, inl, inr, length, cond, Result, Ok, Err, OnOk, OnErr}
use Rattle.std.specs.Result.{is_err}
use Rattle.std.proofs.lemmas.Bool.{true≢false}
use Rattle.std.proofs.lemmas.Bool.Decides.{nat_tests}
use Rattle.std.proofs.lemmas.List.{length-append}
use Rattle.std.proofs.lemmas.List.Elements.{All-nil, All-push, All-weaker}
use Rattle.std.proofs.lemmas.List.Folds.{list_any-append}
use Rattle.std.proofs.lemmas.List.Sums.{sum_by-append}
use Rattle.draid_names.specs.Faults.{Rose}
use Rattle.draid_rack.specs.Rack.{Told, flushes, OnBothTold}
use Rattle.draid_rack.proofs.Moments.{leaves_flushes, leaves_on, leaves_self}
use Rattle.draid_columns.specs.Flushes.{CountsFailed, FlushesBut, has_leaf}

-- ---- a leaf more
has_more : (xs : List ℕ) (x leaf : ℕ) → has_leaf (xs ++ x ∷ []) leaf ≡ (has_leaf xs leaf || ((x == leaf) || false))
has_more xs x leaf = list_any-append (λ l. l == leaf) xs (x ∷ [])

has_kept : (xs : List ℕ) (x leaf : ℕ) → has_leaf xs leaf ≡ true → has_leaf (xs ++ x ∷ []) leaf ≡ true
has_kept xs x leaf e = has_more xs x leaf ∙ ap (λ b. b || ((x == leaf) || false)) e

has_last : (xs : List ℕ) (x : ℕ) → has_leaf (xs ++ x ∷ []) x ≡ true
has_last xs x = has_more xs x x ∙ by (has_leaf xs x)
  where
    by : (b : Bool) → (b || ((x == x) || false)) ≡ true
    by true = refl
    by false = grind (arith, nat_tests)

-- either it was there, or it is the one that came
has_cases : (xs : List ℕ) (x leaf : ℕ) → has_leaf (xs ++ x ∷ []) leaf ≡ true → (has_leaf xs leaf ≡ true) ⊎ (x ≡ leaf)
has_cases xs x leaf e = by (has_leaf xs leaf) (sym (has_more xs x leaf) ∙ e)
  where
    by : (b : Bool) → (b || ((x == leaf) || false)) ≡ true → (b ≡ true) ⊎ (x ≡ leaf)
    by true e = inl refl
    by false e = inr (grind (arith, nat_tests, e))

-- what isn't among more isn't among fewer, nor the one that came
has_fewer : (xs : List ℕ) (x leaf : ℕ) → has_leaf (xs ++ x ∷ []) leaf ≡ false → (has_leaf xs leaf ≡ false) × (x ≡ leaf → ⊥)
has_fewer xs x leaf e = by (has_leaf xs leaf) (sym (has_more xs x leaf) ∙ e)
  where
    by : (b : Bool) → (b || ((x == leaf) || false)) ≡ false → (b ≡ false) × (x ≡ leaf → ⊥)
    by true e = absurd (true≢false e)
    by false e = (refl, λ at. grind (arith, nat_tests, e, at))

-- ---- what is told
pub flushed_none : (o : Option Told) → OnBothTold o o (FlushesBut [] [])
flushed_none None = refl
flushed_none (Some x) = record { firm = λ leaf sector has fails. absurd (true≢false (sym has)); leaves = leaves_self (λ l s. false) x }

pub flushed_more : (all failed : List ℕ) (leaf : ℕ) (o p q : Option Told) → OnBothTold o p (FlushesBut all failed) → q ≡ option_map (flushes leaf) p → OnBothTold o q (FlushesBut (all ++ leaf ∷ []) failed)
flushed_more all failed leaf None p q h e = e ∙ ap (option_map (flushes leaf)) h
flushed_more all failed leaf (Some x) None q h e = absurd h
flushed_more all failed leaf (Some x) (Some y) q h e = subst (λ v. OnBothTold (Some x) v (FlushesBut (all ++ leaf ∷ []) failed)) (sym e) (record {
  firm = λ l s has fails. elim (has_cases all leaf l has) [
    | inl before ↦ (let was = h.firm l s before fails in grind (arith, nat_tests, was))
    | inr same ↦ grind (arith, nat_tests, same)
  ];
  leaves = leaves_on (λ l s. false) x y (flushes leaf y) h.leaves (leaves_flushes (λ l s. false) leaf y);
})

pub failed_more : (all failed : List ℕ) (leaf : ℕ) (o p q : Option Told) → OnBothTold o p (FlushesBut all failed) → q ≡ p → OnBothTold o q (FlushesBut (all ++ leaf ∷ []) (failed ++ leaf ∷ []))
failed_more all failed leaf None p q h e = e ∙ h
failed_more all failed leaf (Some x) None q h e = absurd h
failed_more all failed leaf (Some x) (Some y) q h e = subst (λ v. OnBothTold (Some x) v (FlushesBut (all ++ leaf ∷ []) (failed ++ leaf ∷ []))) (sym e) (record {
  firm = λ l s has fails. let z = has_fewer failed leaf l fails in elim (has_cases all leaf l has) [
    | inl before ↦ h.firm l s before z.0
    | inr same ↦ absurd (z.1 same)
  ];
  leaves = h.leaves;
})

-- ---- counts
count_more : (p : ℕ → Bool) (xs : List ℕ) (x : ℕ) → count_by p (xs ++ x ∷ []) ≡ count_by p xs + cond (p x) 1 0
count_more p xs x = sum_by-append (λ y. cond (p y) 1 0) xs (x ∷ []) ∙ ap (λ n. count_by p xs + n) (omega arith)

rises : (a n b c most : ℕ) → min (a + n) most ≤ b → min (b + 1) most ≤ c → min (a + (n + 1)) most ≤ c
rises a n b c most e f = omega (arith, e, f)

stays : (a n b c most : ℕ) → min (a + n) most ≤ b → b ≤ c → min (a + (n + 0)) most ≤ c
stays a n b c most e f = omega (arith, e, f)

pub counts_none : (old : Option ℕ → ℕ) → CountsFailed [] [] old old
counts_none old = record { among = All-nil (λ leaf. has_leaf [] leaf ≡ true); later = λ who. omega arith; cause = λ leaf. omega arith }

pub counts_flushed : (all failed : List ℕ) (leaf : ℕ) (old mid new : Option ℕ → ℕ) → CountsFailed all failed old mid → ((who : Option ℕ) → mid who ≤ new who) → CountsFailed (all ++ leaf ∷ []) failed old new
counts_flushed all failed leaf old mid new h later = record {
  among = All-weaker (λ l. has_leaf all l ≡ true) (λ l. has_leaf (all ++ leaf ∷ []) l ≡ true) (λ l e. has_kept all leaf l e) failed h.among;
  later = λ who. let a = h.later who in let b = later who in omega (arith, a, b);
  cause = λ l. let a = h.cause l in let b = later (Some l) in omega (arith, a, b);
}

is_leaf : (x y : ℕ) → (x == y) ≡ true → x ≡ y
is_leaf x y e = grind (arith, nat_tests)

pub counts_failed : (all failed : List ℕ) (leaf : ℕ) (old mid new : Option ℕ → ℕ) → CountsFailed all failed old mid → ((who : Option ℕ) → mid who ≤ new who) → Rose (mid (Some leaf)) (new (Some leaf))
    → CountsFailed (all ++ leaf ∷ []) (failed ++ leaf ∷ []) old new
counts_failed all failed leaf old mid new h later rose = record {
  among = All-push (λ l. has_leaf (all ++ leaf ∷ []) l ≡ true) failed leaf
      (All-weaker (λ l. has_leaf all l ≡ true) (λ l. has_leaf (all ++ leaf ∷ []) l ≡ true) (λ l e. has_kept all leaf l e) failed h.among) (has_last all leaf);
  later = λ who. let a = h.later who in let b = later who in omega (arith, a, b);
  cause = λ l. subst (λ n. min (old (Some l) + n) (2 ^ 64 - 1) ≤ new (Some l)) (sym (count_more (λ x. x == l) failed leaf)) (by l (leaf == l) refl);
}
  where
    by : (l : ℕ) (b : Bool) → (leaf == l) ≡ b → min (old (Some l) + (count_by (λ x. x == l) failed + cond b 1 0)) (2 ^ 64 - 1) ≤ new (Some l)
    by l true is =
        let same : leaf ≡ l = is_leaf leaf l is in
        rises (old (Some l)) (count_by (λ x. x == l) failed) (mid (Some l)) (new (Some l)) (2 ^ 64 - 1) (h.cause l) (subst (λ x. Rose (mid (Some x)) (new (Some x))) same rose)
    by l false is = stays (old (Some l)) (count_by (λ x. x == l) failed) (mid (Some l)) (new (Some l)) (2 ^ 64 - 1) (h.cause l) (later (Some l))

pub ok_of : {T E P : Type 0} (r : Result T E) → is_err r ≡ false → OnOk r P → P
ok_of (Ok v) e p = p
ok_of (Err f) e p = absurd (true≢false e)

pub err_of : {T E P : Type 0} (r : Result T E) → is_err r ≡ true → OnErr r P → P
err_of (Ok v) e p = absurd (true≢false (sym e))
err_of (Err f) e p = p

pub longer : (xs : List ℕ) (x n : ℕ) → length xs ≤ n → length (xs ++ x ∷ []) ≤ n + 1
longer xs x n e = let same : length (xs ++ x ∷ []) ≡ length xs + 1 = length-append xs (x ∷ []) in omega (arith, e, same)

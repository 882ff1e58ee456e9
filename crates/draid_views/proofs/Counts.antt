-- Stripes are counted one after another.
use Rattle.std.proofs.Common.{◌≡◌, ◌==◌, ◌+◌, ◌<◌, ◌≤◌, ◌∙◌, ◌↔◌, ℕ, zero, suc, Bool, true, false, if◌then◌else◌, arith, refl, sym, ap, ap₂, subst, inl, inr}
use Rattle.std.proofs.lemmas.Bool.{true≢false, cases_eq, cases_lt}
use Rattle.std.proofs.lemmas.Bool.Decides.{nat_tests}
use Rattle.draid_names.specs.declared.numbers.TheConstants.{NUMBERS}
use Rattle.draid_ranges.specs.Numbers.{count_below}
use Rattle.draid_session.specs.Status.{HasCount}

pub not_false : (b : Bool) → (b ≡ true → ⊥) → b ≡ false
not_false true none = absurd (none refl)
not_false false none = refl

-- tests that agree below a bound count as many
count_same : (f g : ℕ → Bool) (n : ℕ) → ((x : ℕ) → x < n → f x ≡ g x) → count_below f n ≡ count_below g n
unfolding count_below
count_same f g zero same = refl
count_same f g (suc n) same =
    ap₂ (λ (k : ℕ) (b : Bool). k + (if b then 1 else 0)) (count_same f g n (λ x below. same x (omega (arith, below)))) (same n (omega arith))

-- nothing is counted where the test fails
count_past : (f : ℕ → Bool) (m n : ℕ) → m ≤ n → ((x : ℕ) → m ≤ x → f x ≡ false) → count_below f n ≡ count_below f m
unfolding count_below
count_past f m zero low none = ap (count_below f) (let e : 0 ≡ m = omega (arith, low) in e)
count_past f m (suc n) low none = elim (cases_lt n m) [
  | inl last ↦ ap (count_below f) (let e : suc n ≡ m = omega (arith, low, last) in e)
  | inr from ↦
      let rest = count_past f m n from none in
      let more : count_below f n + (if f n then 1 else 0) ≡ count_below f n + 0 = ap (λ (b : Bool). count_below f n + (if b then 1 else 0)) (none n from) in
      omega (arith, rest, more)
]

count_up : (f : ℕ → Bool) (n m : ℕ) → m ≡ suc n → count_below f m ≡ count_below f n + (if f n then 1 else 0)
unfolding count_below
count_up f n m is = ap (count_below f) is

count_one : (f : ℕ → Bool) (n : ℕ) → count_below f (n + 1) ≡ count_below f n + (if f n then 1 else 0)
count_one f n = count_up f n (n + 1) (omega arith)

count_zero : (f : ℕ → Bool) → 0 ≡ count_below f 0
unfolding count_below
count_zero f = refl

one_at_most : (b : Bool) → (if b then 1 else 0) ≤ 1
one_at_most true = omega arith
one_at_most false = omega arith

pub count_most : (f : ℕ → Bool) (n : ℕ) → count_below f n ≤ n
unfolding count_below
count_most f zero = omega arith
count_most f (suc n) = let rest = count_most f n in let one = one_at_most (f n) in omega (arith, rest, one)

at_itself : (n : ℕ) → (n == n) ≡ true
at_itself n = grind (arith, nat_tests)

elsewhere : (x n : ℕ) → (x ≡ n → ⊥) → (x == n) ≡ false
elsewhere x n other = not_false (x == n) (λ same. other (let e : x ≡ n = grind (arith, nat_tests) in e))

module _ (P : ℕ → Type 0) where
  -- so many of the numbers below a bound are so
  pub record CountsBelow (bound count : ℕ) : Type 0 where
    pub test : ℕ → Bool
    pub is : (k : ℕ) → (test k ≡ true) ↔ ((k < bound) × P k)
    pub count_is : count ≡ count_below test bound

  pub counts_none : CountsBelow 0 0
  counts_none = record {
    test = λ k. false;
    is = λ k. (λ same. absurd (true≢false (sym same)), λ both. absurd (let low = both.0 in omega (arith, low)));
    count_is = count_zero (λ k. false);
  }

  module _ (bound count : ℕ) (was : CountsBelow bound count) where
    past : (x : ℕ) → bound ≤ x → was.test x ≡ false
    past x from = not_false (was.test x) (λ same. let low = ((was.is x).0 same).0 in omega (arith, low, from))

    -- the next one that may be so, behind numbers that aren't
    pub counts_next : (next : ℕ) (b : Bool) → bound ≤ next → ((x : ℕ) → bound ≤ x → x < next → P x → ⊥) → ((b ≡ true) ↔ P next) → CountsBelow (next + 1) (count + (if b then 1 else 0))
    counts_next next b from none at = record { test = now; is = is_now; count_is = counted }
      where
        now : ℕ → Bool
        now k = if k == next then b else was.test k

        now_at : now next ≡ b
        now_at = ap (λ (c : Bool). if c then b else was.test next) (at_itself next)

        now_else : (k : ℕ) → (k ≡ next → ⊥) → now k ≡ was.test k
        now_else k other = ap (λ (c : Bool). if c then b else was.test k) (elsewhere k next other)

        is_now : (k : ℕ) → (now k ≡ true) ↔ ((k < next + 1) × P k)
        is_now k = elim (cases_eq k next) [
          | inl same ↦ (
            λ yes_. ((omega (arith, same)), subst P (sym same) (at.0 (sym now_at ∙ subst (λ j. now j ≡ true) same yes_))),
            λ both. subst (λ j. now j ≡ true) (sym same) (now_at ∙ at.1 (subst P same both.1)),
          )
          | inr other ↦ (
            λ yes_. (let z = (was.is k).0 (sym (now_else k other) ∙ yes_) in let low = z.0 in ((omega (arith, low, from)), z.1)),
            λ both. now_else k other ∙ (was.is k).1 (below k both.0 other both.1, both.1),
          )
        ]
          where
            below : (k : ℕ) → k < next + 1 → (k ≡ next → ⊥) → P k → k < bound
            below k low other is = elim (cases_lt k bound) [
              | inl less ↦ less
              | inr past_ ↦ absurd (none k past_ (omega (arith, low, other)) is)
            ]

        counted : count + (if b then 1 else 0) ≡ count_below now (next + 1)
        counted =
            let a = count_one now next in
            let c : count_below now next ≡ count_below was.test next = count_same now was.test next (λ x low. now_else x (λ same. omega (arith, same, low))) in
            let d = count_past was.test bound next from past in
            ap (λ (k : ℕ). k + (if b then 1 else 0)) (was.count_is ∙ sym d ∙ sym c) ∙ ap (λ (t : Bool). count_below now next + (if t then 1 else 0)) (sym now_at) ∙ sym a

    -- none further on is so
    pub counts_all : bound ≤ NUMBERS → ((x : ℕ) → bound ≤ x → P x → ⊥) → HasCount P count
    counts_all low none = record {
      test = was.test;
      is = λ k. (λ same. ((was.is k).0 same).1, λ is. (was.is k).1 (below k is, is));
      count = was.count_is ∙ sym (count_past was.test bound NUMBERS low past);
    }
      where
        below : (k : ℕ) → P k → k < bound
        below k is = elim (cases_lt k bound) [
          | inl less ↦ less
          | inr past_ ↦ absurd (none k past_ is)
        ]

    -- no more than there are numbers
    pub counts_few : count ≤ bound
    counts_few = let few = count_most was.test bound in let is = was.count_is in omega (arith, few, is)

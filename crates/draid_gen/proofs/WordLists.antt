use Rattle.std.proofs.Common.{◌≡◌, ◌∙◌, sym, ap, ◌++◌, ◌∷◌, [], ℕ, List, length, take, slice_set, ◌+◌, ◌-◌, ◌<◌, ◌≤◌, suc, zero, arith, refl}
use Rattle.std.proofs.lemmas.List.{append_assoc, append-nil, take_more_set}
use Rattle.std.proofs.Math.Seq.{take-length}
use Rattle.rand_core.specs.Steps.{first_words}
use Rattle.rand_xoshiro.specs.Xoroshiro128.{plus_plus}

-- a list of words begins with the first
pub first_words-suc : (k : ℕ) (s : List ℕ) → first_words plus_plus (suc k) s ≡ (plus_plus s).0 ∷ first_words plus_plus k (plus_plus s).1
unfolding first_words
first_words-suc k s = refl

-- the next word goes into its place
pub one_more : (n i : ℕ) (xs s0 s s' : List ℕ) (w : ℕ) → i < n → length xs ≡ n → (w, s') ≡ plus_plus s
    → first_words plus_plus n s0 ≡ take i xs ++ first_words plus_plus (n - i) s
    → first_words plus_plus n s0 ≡ take (i + 1) (slice_set xs i w) ++ first_words plus_plus (n - (i + 1)) s'
one_more n i xs s0 s s' w below len step is =
    let word : ℕ × List ℕ → ℕ = λ p. p.0 in
    let rest : ℕ × List ℕ → List ℕ = λ p. p.1 in
    let k : n - i ≡ suc (n - (i + 1)) = omega arith in
    let split : first_words plus_plus (n - i) s ≡ w ∷ first_words plus_plus (n - (i + 1)) s' =
    ap (λ m. first_words plus_plus m s) k
    ∙ (first_words-suc (n - (i + 1)) s
    ∙ (ap (λ a. a ∷ first_words plus_plus (n - (i + 1)) (plus_plus s).1) (sym (ap word step))
    ∙ ap (λ t. w ∷ first_words plus_plus (n - (i + 1)) t) (sym (ap rest step)))) in
    let put : take (i + 1) (slice_set xs i w) ≡ take i xs ++ w ∷ [] = take_more_set xs i w (omega arith) in
    is ∙ (ap (λ ys. take i xs ++ ys) split
    ∙ (sym (append_assoc (take i xs) (w ∷ []) (first_words plus_plus (n - (i + 1)) s'))
    ∙ ap (λ ys. ys ++ first_words plus_plus (n - (i + 1)) s') (sym put)))

-- at the end each word is there
pub all_there : (n i : ℕ) (xs s0 s : List ℕ) → n ≤ i → i ≤ n → length xs ≡ n
    → first_words plus_plus n s0 ≡ take i xs ++ first_words plus_plus (n - i) s
    → xs ≡ first_words plus_plus n s0
unfolding first_words
all_there n i xs s0 s end below len is =
    let none : n - i ≡ zero = omega arith in
    let whole : i ≡ length xs = omega arith in
    sym (is ∙ (ap (λ m. take i xs ++ first_words plus_plus m s) none
    ∙ (append-nil (take i xs) ∙ (ap (λ m. take m xs) whole ∙ take-length xs))))

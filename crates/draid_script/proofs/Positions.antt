-- What `position` answers, as the number of elements before the first that passes.
use Rattle.std.proofs.Common.{◌≡◌, ℕ, ◌+◌, ◌<◌, ◌≤◌, Bool, not, List, [], ◌∷◌, length, Some, None, unwrap_or, refl, inl, inr, arith, position}
use Rattle.std.specs.List.{position_or_len}
use Rattle.std.proofs.lemmas.Bool.{cases_lt, cond_both, le-ltb, lt-ltb}

-- the first element that passes stands within the list, or none passes
pub position_or_len_le : (p : ℕ → Bool) (xs : List ℕ) → position_or_len p xs ≤ length xs
position_or_len_le p [] = omega arith
position_or_len_le p (x ∷ xs) =
    let rest : position_or_len p xs ≤ length xs = position_or_len_le p xs in
    cond_both (not (p x)) (1 + position_or_len p xs) 0 (λ n. n ≤ length (x ∷ xs)) (λ _. omega arith) (λ _. omega arith)

pub position_some : (p : ℕ → Bool) (xs : List ℕ) → position_or_len p xs < length xs → position p xs ≡ Some (position_or_len p xs)
position_some p xs some = rw (lt-ltb (position_or_len p xs) (length xs) some) refl

pub position_none : (p : ℕ → Bool) (xs : List ℕ) → length xs ≤ position_or_len p xs → position p xs ≡ None
position_none p xs none = rw (le-ltb (position_or_len p xs) (length xs) none) refl

pub unwrap_or_position : (p : ℕ → Bool) (xs : List ℕ) → unwrap_or (position p xs) (length xs) ≡ position_or_len p xs
unwrap_or_position p xs =
    elim (cases_lt (position_or_len p xs) (length xs)) [
      | inl some ↦ rw (position_some p xs some) refl
      | inr none ↦ rw (position_none p xs none) (omega (arith, position_or_len_le p xs))
    ]

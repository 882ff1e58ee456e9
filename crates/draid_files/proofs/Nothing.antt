use Rattle.std.proofs.Common.{◌≡◌, ◌<◌, ℕ, List, Option, None, arith, inl, inr, slice_index_or, length}
use Rattle.std.proofs.lemmas.Bool.{cases_lt}
use Rattle.std.proofs.lemmas.List.{get_or_past}

-- a list that holds nothing on its places holds nothing anywhere
pub holds_none : {A : Type 0} (xs : List (Option A)) (n m : ℕ) → length xs ≡ n → ((i : ℕ) (d : Option A) → i < n → slice_index_or xs i d ≡ None) → slice_index_or xs m None ≡ None
holds_none xs n m long at = elim (cases_lt m n) [
  | inl low ↦ at m None low
  | inr high ↦ get_or_past xs m None (omega (arith, long, high))
]

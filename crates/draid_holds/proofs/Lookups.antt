-- What is at a place of a list in which one element was changed.
use Rattle.std.proofs.Common.{◌≡◌, ◌≢◌, ℕ, List, set, ap, ◌∙◌, arith, Option, Some, None, length-set, get_or-set_same, get_or-set_other}
use Rattle.std.proofs.lemmas.Option.{get_or_from_slice_get, slice_get-get_or, slice_get_within}
use Rattle.std.specs.List.{slice_get}

abbrev value_or : {A : Type 0} → A → Option A → A
value_or d None = d
value_or d (Some x) = x

pub some_same : {A : Type 0} (a b : A) → Some a ≡ Some b → a ≡ b
some_same a b e = ap (value_or a) e

module _ {A : Type 0} where
  pub get_set : (xs : List A) (i : ℕ) (a b : A) → slice_get xs i ≡ Some b → slice_get (set xs i a) i ≡ Some a
  get_set xs i a b e =
      let within = slice_get_within xs i b e in
      let long = length-set xs i a in
      slice_get-get_or (set xs i a) i b (omega (arith, within, long)) ∙ ap Some (get_or-set_same xs i a b within)

  pub get_set_other : (xs : List A) (i j : ℕ) (a b : A) → j ≢ i → slice_get xs j ≡ Some b → slice_get (set xs i a) j ≡ Some b
  get_set_other xs i j a b apart e =
      let within = slice_get_within xs j b e in
      let long = length-set xs i a in
      slice_get-get_or (set xs i a) j b (omega (arith, within, long)) ∙ ap Some (get_or-set_other xs i j a b apart ∙ get_or_from_slice_get xs j b b e)

-- Columns that tests read.
use Rattle.std.proofs.Common.{◌≡◌, ℕ, List, length, subst, Option, Some, None, Vec, Global}
use Rattle.std.specs.Prelude.{All, IfSome, slice_get}
use Rattle.std.proofs.lemmas.Option.{slice_get_within, get_or_from_slice_get}

pub are_long : (columns : List (Option (Vec ℕ Global))) (n : ℕ) → All (λ column. IfSome column (λ v. length v.items ≡ n)) columns
    → (i : ℕ) (c : Vec ℕ Global) → slice_get columns i ≡ Some (Some c) → length c.items ≡ n
are_long columns n all i c there =
    subst (λ (column : Option (Vec ℕ Global)). IfSome column (λ v. length v.items ≡ n)) (get_or_from_slice_get columns i (Some c) None there)
    (all i None (slice_get_within columns i (Some c) there))

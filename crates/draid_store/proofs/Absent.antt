-- The columns that weren't read of a block, in order.
use Rattle.std.proofs.Common.{◌≡◌, ◌≤◌, ◌<◌, ◌∙◌, ◌++◌, [], ◌∷◌, ℕ, zero, suc, Bool, true, false, List, Option, Some, None, Vec, Global, arith, refl, sym, ap, subst, length, get_or, if◌then◌else◌}
use Rattle.std.specs.Prelude.{All, Contains, is_none, slice_get}
use Rattle.std.specs.List.Sorted.{IsStrictlyIncreasing}
use Rattle.std.proofs.lemmas.List.{append-nil}
use Rattle.std.proofs.lemmas.List.Elements.{All-nil, All-push}
use Rattle.std.proofs.lemmas.Option.{get_or_from_slice_get, slice_get-get_or}
use Rattle.draid_block.specs.Order.{solve_order}
use Rattle.draid_block.specs.Solving.{absent_below, absent_columns}
use Rattle.draid_block.proofs.Complete.{absent_is}
use Rattle.draid_block.proofs.Held.{absent_contains}
use Rattle.draid_block.proofs.Order.{order_only}
use Rattle.draid_block.proofs.Sets.{ascending-push}
use Rattle.draid_pool.proofs.Ascending.{fewer}

abbrev pub Columns : Type 0
Columns = List (Option (Vec ℕ Global))

-- a list of numbers, ascending and all below one
pub record Rising (n : ℕ) (xs : List ℕ) : Type 0 where
  pub up : IsStrictlyIncreasing xs
  pub below : All (λ i. i < n) xs

rising_weaker : (n : ℕ) (xs : List ℕ) → Rising n xs → Rising (suc n) xs
rising_weaker n xs r = record { up = r.up; below = λ k d there. (let less = r.below k d there in omega (arith, less)) }

rising_push : (n : ℕ) (xs : List ℕ) → Rising n xs → Rising (suc n) (xs ++ n ∷ [])
rising_push n xs r = record {
  up = ascending-push xs n r.up r.below;
  below = All-push (λ i. i < suc n) xs n (λ k d there. (let less = r.below k d there in omega (arith, less))) (omega arith);
}

rising_none : Rising 0 []
rising_none = record { up = λ k there. absurd (omega (arith, there)); below = All-nil (λ i. i < 0) }

rising_if : (n : ℕ) (xs : List ℕ) (b : Bool) → Rising n xs → Rising (suc n) (xs ++ (if b then n ∷ [] else []))
rising_if n xs true r = rising_push n xs r
rising_if n xs false r = subst (Rising (suc n)) (sym (append-nil xs)) (rising_weaker n xs r)

rising_below : (columns : Columns) (n : ℕ) → Rising n (absent_below columns n)
unfolding absent_below
rising_below columns zero = rising_none
rising_below columns (suc n) = rising_if n (absent_below columns n) (is_none (get_or columns n None)) (rising_below columns n)

pub absent_rise : (columns : Columns) (g : ℕ) → length columns ≡ g → Rising g (absent_columns columns)
absent_rise columns g many = subst (λ n. Rising n (absent_columns columns)) many (rising_below columns (length columns))

pub absent_at : (columns : Columns) (c : ℕ) → c < length columns → Contains (absent_columns columns) c → slice_get columns c ≡ Some None
absent_at columns c below there = slice_get-get_or columns c None below ∙ ap Some (absent_is columns (length columns) c there)

pub at_absent : (columns : Columns) (c : ℕ) → c < length columns → slice_get columns c ≡ Some None → Contains (absent_columns columns) c
at_absent columns c below is = absent_contains columns (length columns) c below (get_or_from_slice_get columns c None None is)

-- where a set is tried, it has all absent columns, and no more than there are parity columns
pub tried_few : (parity n : ℕ) (columns : Columns) (before after : List (List ℕ)) (set : List ℕ) → length columns ≡ n → solve_order parity n (absent_columns columns) ≡ before ++ set ∷ after
    → length (absent_columns columns) ≤ parity
tried_few parity n columns before after set many order =
    let there : Contains (solve_order parity n (absent_columns columns)) set = subst (λ sets. Contains sets set) (sym order) (middle before) in
    let t = order_only parity n (absent_columns columns) set there in
    let less = fewer (absent_columns columns) set (absent_rise columns n many).up t.ascending t.absent in
    let few = t.few in
    omega (arith, less, few)
  where
    middle : (front : List (List ℕ)) → Contains (front ++ set ∷ after) set
    middle [] = (zero, omega arith, refl)
    middle (x ∷ xs) = (let z = middle xs in (suc z.0, (let less = z.1 in omega (arith, less)), z.2))

-- A list that grows at its end has at each place what belongs there.
use Rattle.std.proofs.Common.{◌≡◌, ◌<◌, ◌+◌, ◌++◌, ◌∷◌, ◌∙◌, ℕ, List, [], Some, arith, sym, ap, subst, inl, inr, length, get_or, slice_get, slice_index_or}
use Rattle.std.proofs.Math.ListN.{get_or-append}
use Rattle.std.proofs.Math.Seq.{get_or-append_seam}
use Rattle.std.proofs.lemmas.Bool.{cases_lt}
use Rattle.std.proofs.lemmas.List.{length-append}
use Rattle.std.proofs.lemmas.Option.{slice_get-get_or}
use Rattle.draid_names.specs.declared.arm.Arm.{Arm}
use Rattle.draid_stable.specs.Sealing.{AllAt}

module _ {X : Type 0} (P : ℕ → X → Type 0) (xs ys : List X) (x : X) (n : ℕ) (is : ys ≡ xs ++ x ∷ []) (count : length xs ≡ n) where
  length_more : length ys ≡ n + 1
  length_more = ap (λ (list : List X). length list) is ∙ length-append xs (x ∷ []) ∙ ap (λ m. m + 1) count

  pub at_more : AllAt P xs → P n x → (length ys ≡ n + 1) × AllAt P ys
  at_more each here = (
    length_more,
    λ k d less. subst (λ (list : List X). P k (slice_index_or list k d)) (sym is) (elim (cases_lt k n) [
      | inl before ↦ (
          let inside : k < length xs = omega (arith, before, count) in
          subst (P k) (sym (get_or-append xs (x ∷ []) d k inside)) (each k d inside)
          )
      | inr past ↦ (
          let more = length_more in
          let last : k ≡ n = omega (arith, past, less, more) in
          let read : get_or (xs ++ x ∷ []) k d ≡ x = ap (λ j. get_or (xs ++ x ∷ []) j d) (last ∙ sym count) ∙ get_or-append_seam xs x [] d in
          subst (P k) (sym read) (subst (λ j. P j x) (sym last) here)
          )
    ]),
  )

-- an arm that was read stands at its place
pub arm_there : (arms list : List Arm) (n : ℕ) (none arm : Arm) → list ≡ arms → n < length arms → arm ≡ get_or list n none → slice_get arms n ≡ Some arm
arm_there arms list n none arm is less e = slice_get-get_or arms n none less ∙ ap (λ (l : List Arm). Some (get_or l n none)) (sym is) ∙ ap (λ (a : Arm). Some a) (sym e)

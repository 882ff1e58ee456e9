-- The arms from which columns were taken are named, one after another.
use Rattle.std.proofs.Common.{◌≡◌, ◌+◌, ◌<◌, ◌++◌, ◌∷◌, ◌∙◌, [], ℕ, zero, suc, List, Option, None, arith, refl, sym, ap, inl, inr, length}
use Rattle.std.specs.Prelude.{slice_index_or}
use Rattle.std.proofs.lemmas.Bool.{cases_eq}
use Rattle.draid_machine.specs.declared.names.ArmName.{ArmName}
use Rattle.draid_shard.specs.declared.loan.Spot.{Spot}
use Rattle.draid_restore.specs.Reading.{chosen_of}

index_push : {X : Type 0} (xs : List X) (x d : X) (k : ℕ) → k < length xs → slice_index_or (xs ++ x ∷ []) k d ≡ slice_index_or xs k d
index_push [] x d k less = absurd (omega (arith, less))
index_push (y ∷ ys) x d zero less = refl
index_push (y ∷ ys) x d (suc k) less = index_push ys x d k (omega (arith, less))

index_last : {X : Type 0} (xs : List X) (x d : X) → slice_index_or (xs ++ x ∷ []) (length xs) d ≡ x
index_last [] x d = refl
index_last (y ∷ ys) x d = index_last ys x d

pub chosen_more : (spots : List Spot) (failed : List ℕ) (n : ℕ) (old new : List (Option ArmName)) → new ≡ old ++ chosen_of spots failed n ∷ [] → length old ≡ n
    → ((c : ℕ) → c < n → slice_index_or old c None ≡ chosen_of spots failed c) → (c : ℕ) → c < n + 1 → slice_index_or new c None ≡ chosen_of spots failed c
chosen_more spots failed n old new is many was c less = ap (λ list. slice_index_or list c None) is ∙ elim (cases_eq c n) [
  | inl same ↦ ap (λ k. slice_index_or (old ++ chosen_of spots failed n ∷ []) k None) (same ∙ sym many) ∙ index_last old (chosen_of spots failed n) None ∙ ap (chosen_of spots failed) (sym same)
  | inr other ↦ (let low = many in index_push old (chosen_of spots failed n) None c (omega (arith, less, other, low)) ∙ was c (omega (arith, less, other)))
]

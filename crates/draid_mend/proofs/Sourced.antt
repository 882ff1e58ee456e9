-- The first arm that is a source.
use Rattle.std.proofs.Common.{arith, ◌≡◌, ◌==◌, ◌+◌, ◌∙◌, ℕ, Bool, true, false, List, [], ◌∷◌, length, refl, sym, ap, subst, ◌↔◌, inl, inr}
use Rattle.std.specs.Prelude.{All}
use Rattle.std.proofs.lemmas.Bool.{cases_lt}
use Rattle.std.proofs.lemmas.Bool.{eqb-true}
use Rattle.std.proofs.lemmas.List.Elements.{All-head}
use Rattle.draid_machine.proofs.Small.{absurd_test}
use Rattle.draid_ranges.specs.Numbers.{AreRuns, IsMaximal, Numbers, has}
use Rattle.draid_ranges.specs.Runs.{has_in}
use Rattle.draid_ranges.specs.declared.run.Run.{Run}
use Rattle.draid_slots.specs.Table.{SlotTable}
use Rattle.draid_mend.specs.Sources.{IsSourceArm, NoSource}

module _ (set : Numbers) (runs : List Run) (are : AreRuns set runs) (empty : Bool) where
  abbrev IsNothing : Type 0
  IsNothing = (x : ℕ) → has set x ≡ false

  none_in : (xs : List Run) → xs ≡ runs → empty ≡ (length xs == 0) → empty ≡ true → IsNothing
  none_in [] is same full x = are.members x ∙ ap (λ runs. has_in runs x) (sym is)
  none_in (r ∷ rs) is same full x = absurd (let no = eqb-true (length (r ∷ rs)) 0 (sym same ∙ full) in omega (arith, no))

  no_run : (xs : List Run) → xs ≡ runs → empty ≡ (length xs == 0) → IsNothing → empty ≡ true
  no_run [] is same none = same
  no_run (r ∷ rs) is same none = absurd_test (has set r.first) here (none r.first)
    where
      head : IsMaximal (has set) r
      head = All-head (IsMaximal (has set)) r rs (subst (All (IsMaximal (has set))) (sym is) are.maximal)

      here : has set r.first ≡ true
      here = head.members r.first (omega arith) (let some = head.some in omega (arith, some))

  pub is_nothing : empty ≡ (length runs == 0) → empty ≡ true ↔ IsNothing
  is_nothing same = (none_in runs refl same, no_run runs refl same)

-- one more arm isn't a source
pub none_more : (slots : SlotTable) (slot slice arm : ℕ) → NoSource slots slot slice arm → (IsSourceArm slots slot slice arm → ⊥) → NoSource slots slot slice (arm + 1)
none_more slots slot slice arm none out k less = elim (cases_lt k arm) [
  | inl lower ↦ none k lower
  | inr high ↦ subst (λ k. IsSourceArm slots slot slice k → ⊥) (let same : arm ≡ k = omega (arith, high, less) in same) out
]

-- Members of lists, by their places.
use Rattle.std.proofs.Common.{◌≡◌, ◌==◌, ◌+◌, ◌<◌, ◌⊎◌, ℕ, zero, suc, Bool, true, false, List, [], ◌∷◌, cond, count_by, take, get_or, length, sym, ◌∙◌, inl, inr, arith}
use Rattle.std.proofs.lemmas.Bool.{true≢false}
use Rattle.std.proofs.lemmas.Bool.Decides.{nat_tests}
use Rattle.std.proofs.lemmas.List.Sums.{count_by_more_yes, sum_by-take-le}
use Rattle.draid_machine.specs.declared.names.ArmName.{ArmName}
use Rattle.draid_machine.specs.Names.{has_name, name_eq}
use Rattle.draid_machine.proofs.Small.{either_true, name_refl, name_true, true_left, true_right}
use Rattle.draid_passes.proofs.Changes.{has_more}

pub name_at_place : (ns : List ArmName) (n d : ArmName) → has_name ns n ≡ true → (i : ℕ) × (i < length ns) × (get_or ns i d ≡ n)
name_at_place [] n d e = absurd (true≢false (sym e))
name_at_place (m ∷ ns) n d e = elim (either_true (name_eq m n) (has_name ns n) e) [
  | inl here ↦ (0, omega arith, name_true m n here)
  | inr there ↦ (let z = name_at_place ns n d there in (suc z.0, (let l = z.1 in omega (arith, l)), z.2))
]

pub name_here : (ns : List ArmName) (at : ℕ) (d : ArmName) → at < length ns → has_name ns (get_or ns at d) ≡ true
name_here [] at d less = absurd (omega (arith, less))
name_here (m ∷ ns) zero d less = true_left _ _ (name_refl m)
name_here (m ∷ ns) (suc at) d less = true_right _ _ (name_here ns at d (omega (arith, less)))

-- one of the first, or the next one
pub name_next : (ns : List ArmName) (at : ℕ) (d n : ArmName) → at < length ns → has_name (take (at + 1) ns) n ≡ true → (has_name (take at ns) n ≡ true) ⊎ (get_or ns at d ≡ n)
name_next ns at d n less e = elim (either_true (has_name (take at ns) n) (name_eq (get_or ns at d) n) (sym (has_more ns at d n less) ∙ e)) [
  | inl old ↦ inl old
  | inr new ↦ inr (name_true _ _ new)
]

-- one that counts
not_zero : (n : ℕ) → 0 < n → (n == 0) ≡ false
not_zero n some = grind (arith, nat_tests)

pub some_counted : (p : ArmName → Bool) (ns : List ArmName) (k : ℕ) (d : ArmName) → k < length ns → p (get_or ns k d) ≡ true → (count_by p ns == 0) ≡ false
some_counted p ns k d less is =
    let one = count_by_more_yes p ns k d less is in
    let all = sum_by-take-le (λ n. cond (p n) 1 0) ns (k + 1) in
    not_zero (count_by p ns) (omega (arith, one, all))

-- A chain of spares, followed from slot to slot.
use Rattle.std.proofs.Common.{◌≡◌, ◌-◌, ◌+◌, ◌<◌, ◌≤◌, ℕ, zero, suc, Option, Some, None, arith, refl, sym, ap, ◌∙◌}
use Rattle.std.specs.Option.{option_map_or}
use Rattle.draid_chain.specs.Chain.{chain_end}

-- where the chain of a slot's first spare ends, after so many further spares at most
abbrev pub end_from : (ℕ → ℕ) → (ℕ → Option ℕ) → ℕ → ℕ → ℕ
end_from slot_at first zero slot = slot
end_from slot_at first (suc most) slot = option_map_or (λ next. end_from slot_at first most (slot_at next)) (first slot) slot

pub end_is : (slot_at : ℕ → ℕ) (first : ℕ → Option ℕ) (most spare : ℕ) → chain_end slot_at first most spare ≡ end_from slot_at first most (slot_at spare)
end_is slot_at first zero spare = refl
end_is slot_at first (suc most) spare = by (first (slot_at spare)) (end_is slot_at first most)
  where
    by : (o : Option ℕ) → ((next : ℕ) → chain_end slot_at first most next ≡ end_from slot_at first most (slot_at next))
        → option_map_or (λ next. chain_end slot_at first most next) o (slot_at spare) ≡ option_map_or (λ next. end_from slot_at first most (slot_at next)) o (slot_at spare)
    by None rest = refl
    by (Some next) rest = rest next

less : (spares passed : ℕ) → passed < spares → spares - passed ≡ suc (spares - (passed + 1))
less spares passed below = omega arith

-- one spare further
pub further : (slot_at : ℕ → ℕ) (first : ℕ → Option ℕ) (spares passed slot next : ℕ) → passed < spares → first slot ≡ Some next
    → end_from slot_at first (spares - (passed + 1)) (slot_at next) ≡ end_from slot_at first (spares - passed) slot
further slot_at first spares passed slot next below there =
    sym (ap (λ m. end_from slot_at first m slot) (less spares passed below)
    ∙ ap (λ o. option_map_or (λ next. end_from slot_at first (spares - (passed + 1)) (slot_at next)) o slot) there)

-- the end
pub ended : (slot_at : ℕ → ℕ) (first : ℕ → Option ℕ) (spares passed slot : ℕ) → passed < spares → first slot ≡ None → end_from slot_at first (spares - passed) slot ≡ slot
ended slot_at first spares passed slot below none =
    ap (λ m. end_from slot_at first m slot) (less spares passed below)
    ∙ ap (λ o. option_map_or (λ next. end_from slot_at first (spares - (passed + 1)) (slot_at next)) o slot) none

pub passed_all : (slot_at : ℕ → ℕ) (first : ℕ → Option ℕ) (spares passed slot : ℕ) → spares ≤ passed → end_from slot_at first (spares - passed) slot ≡ slot
passed_all slot_at first spares passed slot all = let none : spares - passed ≡ 0 = omega arith in ap (λ m. end_from slot_at first m slot) none

-- A record that tells of a leaf in each of two slots.
use Rattle.std.proofs.Common.{◌≡◌, ◌∙◌, ◌<◌, ℕ, zero, suc, List, [], ◌∷◌, length, get_or, arith, ap, sym, subst}
use Rattle.draid_names.specs.declared.arm.Arm.{Arm}
use Rattle.draid_spec.specs.declared.layout.Geometry.{Geometry}
use Rattle.draid_slots.specs.Changes.{new_arm}
use Rattle.draid_slots.specs.Table.{AreSlots}
use Rattle.draid_slots.proofs.Spares.{new_slots}

pub two_slots : (geometry : Geometry) (arms : List (List Arm)) → geometry.spec.children ≡ 2 → arms ≡ (new_arm 0 ∷ []) ∷ (new_arm 1 ∷ []) ∷ []
    → AreSlots geometry arms []
two_slots geometry arms two is = new_slots geometry arms (ap length is ∙ sym two) (λ slot below. at slot (subst (λ n. slot < n) two below)) where
  at : (slot : ℕ) → slot < 2 → get_or arms slot [] ≡ new_arm slot ∷ []
  at zero below = ap (λ a. get_or a 0 []) is
  at (suc zero) below = ap (λ a. get_or a 1 []) is
  at (suc (suc k)) below = absurd (omega arith)

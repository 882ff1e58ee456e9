-- The first of a list.
use Rattle.std.proofs.Common.{◌≡◌, ℕ, List, [], ◌∷◌, Option, Some, None, drop, refl, sym, ◌∙◌, ap, inl, inr}
use Rattle.draid_machine.specs.declared.names.ArmName.{ArmName}
use Rattle.draid_machine.specs.Arms.{IsFirst}

pub first_skip : (P : ArmName → Type 0) (m : ArmName) (ms : List ArmName) (o : Option ArmName) → (P m → ⊥) → IsFirst P ms o → IsFirst P (m ∷ ms) o
first_skip P m ms None fails f = (fails, f)
first_skip P m ms (Some n) fails f = inr (fails, f)

-- the first of the rest is the first of all
abbrev pub IsRest : (ArmName → Type 0) → List ArmName → ℕ → Type 0
IsRest P ns at = (o : Option ArmName) → IsFirst P (drop at ns) o → IsFirst P ns o

-- a list has one first
pub one_first : (P : ArmName → Type 0) (ns : List ArmName) (a b : Option ArmName) → IsFirst P ns a → IsFirst P ns b → a ≡ b
one_first P [] None None x y = refl
one_first P [] None (Some n) x y = absurd y
one_first P [] (Some m) b x y = absurd x
one_first P (m ∷ ms) None None x y = refl
one_first P (m ∷ ms) None (Some n) x y = elim y [
  | inl z ↦ absurd (x.0 z.0)
  | inr z ↦ one_first P ms None (Some n) x.1 z.1
]
one_first P (m ∷ ms) (Some n) None x y = elim x [
  | inl z ↦ absurd (y.0 z.0)
  | inr z ↦ one_first P ms (Some n) None z.1 y.1
]
one_first P (m ∷ ms) (Some n) (Some o) x y = elim x [
  | inl z ↦ elim y [ inl v ↦ ap Some (z.1 ∙ sym v.1) | inr v ↦ absurd (v.0 z.0) ]
  | inr z ↦ elim y [ inl v ↦ absurd (z.0 v.0) | inr v ↦ one_first P ms (Some n) (Some o) z.1 v.1 ]
]

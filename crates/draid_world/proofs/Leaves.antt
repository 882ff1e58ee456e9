-- A walk over a list of leaves that ends at the first of which something doesn't hold.
use Rattle.std.proofs.Common.{◌≡◌, ◌+◌, ◌<◌, ◌≤◌, ℕ, true, List, length, get_or, inl, inr, arith, subst, sym}
use Rattle.std.proofs.lemmas.Bool.{cases_eq}
use Rattle.draid_machine.specs.Names.{has_number}
use Rattle.draid_world.proofs.Readings.{number_at, number_here}

-- it holds of each leaf before a place
abbrev pub HoldsBefore : (ℕ → Type 0) → List ℕ → ℕ → Type 0
HoldsBefore Holds leaves at = (i : ℕ) → i < at → Holds (get_or leaves i 0)

pub holds_not : (Holds : ℕ → Type 0) (leaves : List ℕ) (at : ℕ) → at < length leaves → (Holds (get_or leaves at 0) → ⊥)
    → ((leaf : ℕ) → has_number leaves leaf ≡ true → Holds leaf) → ⊥
holds_not Holds leaves at less fails all = fails (all (get_or leaves at 0) (number_here leaves at 0 less))

pub holds_more : (Holds : ℕ → Type 0) (leaves : List ℕ) (at : ℕ) → Holds (get_or leaves at 0) → HoldsBefore Holds leaves at
    → HoldsBefore Holds leaves (at + 1)
holds_more Holds leaves at here before = λ i less. elim (cases_eq i at) [
  | inl is ↦ subst (λ k. Holds (get_or leaves k 0)) (sym is) here
  | inr other ↦ before i (omega (arith, less, other))
]

pub holds_all : (Holds : ℕ → Type 0) (leaves : List ℕ) (at : ℕ) → length leaves ≤ at → HoldsBefore Holds leaves at
    → (leaf : ℕ) → has_number leaves leaf ≡ true → Holds leaf
holds_all Holds leaves at past before = λ leaf has.
    let z = number_at leaves leaf has in
    let place = z.1 in
    subst Holds z.2 (before z.0 (omega (arith, place, past)))

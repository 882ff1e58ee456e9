-- What holds of arms and columns so far.
use Rattle.std.proofs.Common.{◌+◌, ◌<◌, ◌≤◌, ℕ, List, [], take, get_or, length, sym, subst, arith, inl, inr}
use Rattle.std.proofs.lemmas.Bool.{true≢false, cases_eq}
use Rattle.std.proofs.lemmas.List.{take_all}
use Rattle.draid_machine.specs.declared.names.ArmName.{ArmName}
use Rattle.draid_passes.proofs.Lists.{name_next}
use Rattle.draid_scrubs.specs.Wholes.{AreOn}

pub on_none : (P : ArmName → Type 0) → AreOn P []
on_none P = λ n e. absurd (true≢false (sym e))

pub on_more : (P : ArmName → Type 0) (names : List ArmName) (at : ℕ) (d : ArmName) → at < length names → AreOn P (take at names) → P (get_or names at d) → AreOn P (take (at + 1) names)
on_more P names at d less are here = λ n has. elim (name_next names at d n less has) [
  | inl old ↦ are n old
  | inr new ↦ subst P new here
]

pub on_all : (P : ArmName → Type 0) (names : List ArmName) (at : ℕ) → length names ≤ at → AreOn P (take at names) → AreOn P names
on_all P names at past are = subst (AreOn P) (take_all at names past) are

-- what holds of each number below one
pub below_more : (P : ℕ → Type 0) (k : ℕ) → ((c : ℕ) → c < k → P c) → P k → (c : ℕ) → c < k + 1 → P c
below_more P k are here c less = elim (cases_eq c k) [
  | inl at ↦ subst P (sym at) here
  | inr other ↦ are c (omega (arith, less, other))
]

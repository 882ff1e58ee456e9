use Rattle.std.specs.Prelude.{◌≡◌, ◌≤◌, ℕ, true, Some}
use Rattle.draid_machine.specs.declared.names.ArmName.{ArmName}
use Rattle.draid_machine.specs.State.{Layout, Core, Pass, Loan}
use Rattle.draid_machine.specs.After.{unsourced}
use Rattle.draid_machine.specs.Arms.{has_column, leaf_at}
use Rattle.draid_machine.specs.Step.{MendsThere}

-- an arm has a column of a stripe, and keeps it on a leaf
abbrev pub Keeps : Layout → Core → ℕ → ℕ → ArmName → Type 0
Keeps l q x leaf n = (has_column l q n x ≡ true) × (leaf_at l q.order n x ≡ Some leaf)

-- a leaf to which the landing of a stripe writes
abbrev pub MayMend : Layout → Core → Pass → Loan → ℕ → Type 0
MayMend l q p n leaf = MendsThere l q p n.stripe leaf × (unsourced l n ≤ l.parity)

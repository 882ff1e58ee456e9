use Rattle.std.specs.Prelude.{◌&&◌, ℕ, Bool}
use Rattle.draid_machine.specs.declared.names.ArmName.{ArmName}
use Rattle.draid_machine.specs.State.{Layout, Core}
use Rattle.draid_machine.specs.Arms.{has_column, leaf_at, passes}

-- an arm whose slot has a column of a stripe keeps it on a leaf of a kind
abbrev pub keeps_at : Layout → Core → (ℕ → Bool) → ArmName → ℕ → Bool
keeps_at l q bad n x = has_column l q n x && passes (leaf_at l q.order n x) bad

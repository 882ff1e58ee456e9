use Rattle.std.specs.Prelude.{◌≡◌, ◌<◌, ℕ, Some}
use Rattle.draid_machine.specs.declared.names.ArmName.{ArmName}
use Rattle.draid_machine.specs.declared.names.Held.{Held}
use Rattle.draid_machine.specs.State.{Layout, Core}
use Rattle.draid_machine.specs.Arms.{reading, leaf_at}

-- a leaf is that of the reading arm of a column of a block, of some column
abbrev pub ReadsFrom : Layout → Core → Held → ℕ → ℕ → Type 0
ReadsFrom l q h c leaf = (n : ArmName) × (reading l q h c ≡ Some n) × (leaf_at l q.order n h.first ≡ Some leaf)

abbrev pub IsRead : Layout → Core → Held → ℕ → Type 0
IsRead l q h leaf = (c : ℕ) × (n : ArmName) × (c < l.columns) × (reading l q h c ≡ Some n) × (leaf_at l q.order n h.first ≡ Some leaf)

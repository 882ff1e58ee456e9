-- Whether a shard takes blocks, and for how long a one it has room.
use Rattle.std.specs.Prelude.{◌≡◌, ◌+◌, ◌⊎◌, ℕ, Option, Some, None}
use Rattle.draid_names.specs.Numbers.{most_held}
use Rattle.draid_machine.specs.State as machine
use Rattle.draid_machine.specs.Step.{HoldsFewer, IsEnabled, IsLongest}
use Rattle.draid_entries.specs.History.{Passes, left_for_groups}
use Rattle.draid_shard.specs.States.{layout_by}
use Rattle.draid_shard.specs.declared.fault.Shut.{Shut}
use Rattle.draid_shard.specs.declared.fault.Shut.TheVariants.{Disabled, Full, Worn}
use Rattle.draid_shard.specs.declared.shard.Shard.{Shard}

-- so many events more pass the limit
abbrev pub IsWornFor : {R A : Type 0} → Shard R A → ℕ → Type 0
IsWornFor shard events = Passes shard.history events left_for_groups

-- a new block asks for its event, one for each column, one for its end and one for its freeing
abbrev pub block_events : {R A : Type 0} → Shard R A → ℕ
block_events shard = shard.geometry.g + 3

-- the metaslab takes blocks: no rebuild has it, it may hold more, and it has events left
pub record TakesBlocks {R A : Type 0} (shard : Shard R A) (w : machine.State) : Type 0 where
  pub enabled : IsEnabled w.core
  pub fewer : HoldsFewer w.core (most_held w.version)
  pub events : IsWornFor shard (block_events shard) → ⊥

-- why it takes none: the first of these that holds
abbrev pub ShutBy : {R A : Type 0} → Shard R A → machine.State → Option Shut → Type 0
ShutBy shard w None = TakesBlocks shard w
ShutBy shard w (Some Disabled) = IsEnabled w.core → ⊥
ShutBy shard w (Some Full) = IsEnabled w.core × (HoldsFewer w.core (most_held w.version) → ⊥)
ShutBy shard w (Some Worn) = IsEnabled w.core × HoldsFewer w.core (most_held w.version) × IsWornFor shard (block_events shard)

-- the run that a room tells: the longest one, and none where the metaslab takes no block
abbrev pub IsRoom : {R A : Type 0} → Shard R A → machine.State → ℕ → Type 0
IsRoom shard w run = ((TakesBlocks shard w → ⊥) × (run ≡ 0)) ⊎ (TakesBlocks shard w × IsLongest (layout_by shard) w.core run)

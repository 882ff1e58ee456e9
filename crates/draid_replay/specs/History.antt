use Rattle.std.specs.Prelude.{◌+◌, ◌-◌, ◌<◌, ◌^◌, ℕ, List, take, length, slice_index_or}
use Rattle.draid_machine.specs.declared.event.Event.{Event}
use Rattle.draid_machine.specs.State.{Layout, State}
use Rattle.draid_machine.specs.Step.{Run, Step}
use Rattle.draid_replay.specs.Within.{IsWithin}

-- the events before a place are legal one after another, and that at the place isn't legal in the state that they give
abbrev pub IsFirstIllegal : Layout → State → List Event → ℕ → Type 0
IsFirstIllegal l w events at = (mid : State) × (at < length events) × Run l w (take at events) mid × ((d : Event) (new : State) → Step l mid (slice_index_or events at d) new → ⊥)

-- how far a history has come: the state that its first events give, with numbers in their ranges
pub record IsSoFar (l : Layout) (w : State) (events : List Event) (at : ℕ) (now : State) : Type 0 where
  pub run : Run l w (take at events) now
  pub within : IsWithin now
  pub serial : now.serial + length events < 2 ^ 64 - 1 + at

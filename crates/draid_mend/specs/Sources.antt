-- The arms from which a rebuild takes its columns.
use Rattle.std.specs.Prelude.{◌≡◌, ◌<◌, ℕ, true, false}
use Rattle.draid_slots.specs.Reading.{answers_in}
use Rattle.draid_slots.specs.Table.{SlotTable, is_logged}

-- an arm of a slot answers in a slice, and its log is empty
pub record IsSourceArm (slots : SlotTable) (slot slice k : ℕ) : Type 0 where
  pub answers : answers_in slots slot slice k ≡ true
  pub empty : (group : ℕ) → is_logged slots (record { slot = slot; arm = k }) group ≡ false

-- none of the first so many arms is one
abbrev pub NoSource : SlotTable → ℕ → ℕ → ℕ → Type 0
NoSource slots slot slice count = (k : ℕ) → k < count → IsSourceArm slots slot slice k → ⊥

-- the source of a column: the first such arm of its slot
pub record IsSourceOf (slots : SlotTable) (slot slice count arm : ℕ) : Type 0 where
  pub within : arm < count
  pub is : IsSourceArm slots slot slice arm
  pub first : NoSource slots slot slice arm

-- A stripe is lent as the state machine says.
use Rattle.std.specs.Prelude.{◌≡◌, ◌+◌, ℕ, List, Option, None, Some, [], ◌∷◌, option_map, slice_get}
use Rattle.draid_names.specs.declared.pointer.Pointer.{Pointer}
use Rattle.draid_machine.specs.State as machine
use Rattle.draid_machine.specs.Step.{LendStep}
use Rattle.draid_machine.specs.declared.names.ArmName.{ArmName}
use Rattle.draid_machine.specs.declared.names.Key.{Key}
use Rattle.draid_slots.specs.States.{name_of}
use Rattle.draid_slots.specs.Table.{SlotTable, arm_at}
use Rattle.draid_shard.specs.Part.{Part, layout_in}
use Rattle.draid_mend.specs.declared.reading.Taken.{Taken}
use Rattle.draid_mend.specs.declared.reading.Taken.TheVariants.{Nowhere, Failed, From}

-- the arm of a slot from which a column was taken, by its name
abbrev pub taken_of : SlotTable → ℕ → Option Taken → Option ArmName
taken_of slots slot None = None
taken_of slots slot (Some Nowhere) = None
taken_of slots slot (Some (Failed leaf)) = None
taken_of slots slot (Some (From arm leaf)) = option_map name_of (arm_at slots (record { slot = slot; arm = arm }))

abbrev pub chosen_in : Part → SlotTable → Pointer → List Taken → ℕ → Option ArmName
chosen_in part slots pointer taken c = taken_of slots ((layout_in part).slot_of pointer.first c) (slice_get taken c)

abbrev pub to_list : Option ArmName → List ArmName
to_list None = []
to_list (Some n) = n ∷ []

-- the loan of a stripe, of which the columns were taken so
abbrev pub loan_of : Part → SlotTable → machine.State → Pointer → Key → List Taken → machine.Loan
loan_of part slots w pointer key taken = record {
  key = key;
  stripe = pointer.first;
  serial = w.serial + 1;
  read = λ c. to_list (chosen_in part slots pointer taken c);
  chosen = λ c. chosen_in part slots pointer taken c;
}

-- that loan is a legal one
pub record Lends (part : Part) (slots : SlotTable) (w : machine.State) (pointer : Pointer) (key : Key) (taken : List Taken) (failed : List ℕ) : Type 0 where
  pub after : machine.State
  pub step : LendStep (layout_in part) w failed after
  pub loan : step.n ≡ loan_of part slots w pointer key taken

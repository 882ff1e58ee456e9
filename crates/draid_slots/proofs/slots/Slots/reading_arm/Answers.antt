use Rattle.draid_slots.proofs.Tables.{if_some_passed}
use Rattle.draid_slots.proofs.slots.Slots.reading_arm.Goals as goal

pub first_clean-requires-clause-slot : goal.first_clean-requires-clause-slot
first_clean-requires-clause-slot c = c.requires.slot

pub first_clean-requires-clause-slice : goal.first_clean-requires-clause-slice
first_clean-requires-clause-slice c = c.requires.slice

pub first_answering-requires-clause-slot : goal.first_answering-requires-clause-slot
first_answering-requires-clause-slot c = c.requires.slot

pub first_answering-requires-clause-slice : goal.first_answering-requires-clause-slice
first_answering-requires-clause-slice c = c.requires.slice

pub returns-in_err-arm-clause-read : goal.returns-in_err-arm-clause-read
returns-in_err-arm-clause-read c = if_some_passed c.from_residual.result _ c.from_residual.ensures

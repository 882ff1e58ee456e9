use Rattle.draid_slots.proofs.slots.Slots.answers.Goals as goal

pub holder-requires-clause-there : goal.holder-requires-clause-there
holder-requires-clause-there c = c.requires.there

pub holder-requires-clause-slice : goal.holder-requires-clause-slice
holder-requires-clause-slice c = c.requires.slice

use Rattle.draid_slots.specs.Reading.{IsNone, answers_in}
use Rattle.draid_slots.proofs.slots.Slots.first_answering.Given as goal

abbrev pub invariant-loop-arm : goal.invariant-loop-arm
invariant-loop-arm l = IsNone (answers_in l.self l.slot l.slice) l.arm

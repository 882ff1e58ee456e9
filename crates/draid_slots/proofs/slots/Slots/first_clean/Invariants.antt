use Rattle.draid_slots.specs.Reading.{IsNone, is_clean_in}
use Rattle.draid_slots.proofs.slots.Slots.first_clean.Given as goal

abbrev pub invariant-loop-arm : goal.invariant-loop-arm
invariant-loop-arm l = IsNone (is_clean_in l.self l.slot l.slice l.birth) l.arm

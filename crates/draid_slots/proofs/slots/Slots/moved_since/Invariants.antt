use Rattle.draid_slots.proofs.Lasting.{AreMoved}
use Rattle.draid_slots.proofs.slots.Slots.moved_since.Given as goal

abbrev pub invariant-loop-spare : goal.invariant-loop-spare
invariant-loop-spare l = AreMoved l.before l.now l.self l.moved.spares l.spare

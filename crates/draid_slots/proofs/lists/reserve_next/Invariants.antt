use Rattle.draid_slots.proofs.Rooms.{AreAdded}
use Rattle.draid_slots.proofs.lists.reserve_next.Given as goal

abbrev pub invariant-loop-more : goal.invariant-loop-more
invariant-loop-more l = AreAdded l.initial.next.items l.next.items l.changes l._more

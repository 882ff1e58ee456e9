use Rattle.std.proofs.Common.{map}
use Rattle.draid_slots.specs.Table.{arms_in}
use Rattle.draid_slots.proofs.Lasting.{ArePlacesUpto}
use Rattle.draid_slots.proofs.moved.places_of.Given as goal

abbrev pub invariant-loop-slot : goal.invariant-loop-slot
invariant-loop-slot l = ArePlacesUpto (map arms_in l.slots) l.places l.slot

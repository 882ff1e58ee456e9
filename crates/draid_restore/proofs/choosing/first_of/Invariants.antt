use Rattle.std.specs.Prelude.{◌≡◌, drop, find}
use Rattle.draid_restore.specs.Reading.{is_of}
use Rattle.draid_restore.proofs.choosing.first_of.Given as goal

abbrev pub invariant-loop-spot : goal.invariant-loop-spot
invariant-loop-spot l = find (is_of l.column) l.spots ≡ find (is_of l.column) (drop l.spot-index l.spots)

use Rattle.std.specs.Prelude.{◌≡◌, drop, find}
use Rattle.draid_restore.specs.Reading.{is_clean_of}
use Rattle.draid_restore.proofs.choosing.first_clean.Given as goal

abbrev pub invariant-loop-spot : goal.invariant-loop-spot
invariant-loop-spot l = find (is_clean_of l.column) l.spots ≡ find (is_clean_of l.column) (drop l.spot-index l.spots)

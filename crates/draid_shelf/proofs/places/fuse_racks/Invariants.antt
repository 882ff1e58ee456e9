use Rattle.draid_shelf.specs.Memory.{FusesRacks}
use Rattle.draid_shelf.proofs.places.fuse_racks.Given as goal

abbrev pub invariant-loop-place : goal.invariant-loop-place
invariant-loop-place l = FusesRacks l.place l.fn.racks l.racks

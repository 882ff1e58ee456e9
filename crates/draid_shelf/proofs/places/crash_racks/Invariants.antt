use Rattle.draid_shelf.specs.Memory.{CrashesRacks}
use Rattle.draid_shelf.proofs.places.crash_racks.Given as goal

abbrev pub invariant-loop-place : goal.invariant-loop-place
invariant-loop-place l = CrashesRacks l.rule l.place l.fn.racks l.racks

use Rattle.draid_shelf.specs.Memory.{CrashesAreas}
use Rattle.draid_shelf.proofs.places.crash_areas.Given as goal

abbrev pub invariant-loop-place : goal.invariant-loop-place
invariant-loop-place l = CrashesAreas l.rule l.place l.fn.areas l.areas

use Rattle.draid_shelf.specs.Memory.{FusesAreas}
use Rattle.draid_shelf.proofs.places.fuse_areas.Given as goal

abbrev pub invariant-loop-place : goal.invariant-loop-place
invariant-loop-place l = FusesAreas l.place l.fn.areas l.areas

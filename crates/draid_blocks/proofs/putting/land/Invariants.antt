use Rattle.std.proofs.Common.{◌≡◌}
use Rattle.draid_blocks.specs.Landings.{Lands}
use Rattle.draid_blocks.proofs.putting.land.Given as goal

abbrev pub invariant-loop-arm : goal.invariant-loop-arm
invariant-loop-arm g l = let rack = g.R.Rack in record {
  shape : rack.shape l.rack ≡ rack.shape l.initial.rack;
  lands : Lands l.initial.slots l.slots l.rows l.arm l.column l.landing (rack.told l.initial.rack) (rack.told l.rack) (rack.faults l.initial.rack) (rack.faults l.rack);
}

use Rattle.std.proofs.Common.{not}
use Rattle.draid_machine.specs.declared.names.Segment.{Segment}
use Rattle.draid_machine.specs.Arms.{fails}
use Rattle.draid_world.specs.World.{core_of, site_layout}
use Rattle.draid_world.proofs.Picks.{ArePicked}
use Rattle.draid_rebuilds.proofs.mending.landed.Given as goal

abbrev pub invariant-loop-segment : goal.invariant-loop-segment
invariant-loop-segment l = ArePicked (λ (s : Segment). not (fails (site_layout l.site) (core_of l.tables) l.failed s.arm l.stripe)) l.all l.segment-index l.out.items

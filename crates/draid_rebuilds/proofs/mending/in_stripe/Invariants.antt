use Rattle.draid_rebuilds.specs.Mending.{is_in_stripe}
use Rattle.draid_world.specs.World.{core_of, site_layout}
use Rattle.draid_world.proofs.Picks.{ArePicked}
use Rattle.draid_rebuilds.proofs.mending.in_stripe.Given as goal

abbrev pub invariant-loop-segment : goal.invariant-loop-segment
invariant-loop-segment l = ArePicked (is_in_stripe (site_layout l.site) (core_of l.tables) l.targets l.first l.stripe) l.all l.segment-index l.out.items

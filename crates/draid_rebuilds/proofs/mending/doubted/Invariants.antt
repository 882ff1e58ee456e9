use Rattle.draid_machine.specs.Names.{has_segment}
use Rattle.draid_rebuilds.specs.Mending.{is_doubtful}
use Rattle.draid_world.specs.World.{core_of, loan_of, site_layout}
use Rattle.draid_world.proofs.Picks.{ArePicked}
use Rattle.draid_rebuilds.proofs.mending.doubted.Given as goal

abbrev pub invariant-loop-segment : goal.invariant-loop-segment
invariant-loop-segment l = ArePicked (is_doubtful (site_layout l.site) (core_of l.tables) (has_segment l.aside.keys) (loan_of l.loan)) l.all l.segment-index l.out.items

use Rattle.draid_scrubs.specs.Wholes.{AreColumnsWhole}
use Rattle.draid_world.specs.World.{core_of, site_layout}
use Rattle.draid_scrubs.proofs.wholes.is_whole.Given as goal

abbrev pub invariant-loop-column : goal.invariant-loop-column
invariant-loop-column l = AreColumnsWhole (site_layout l.site) (core_of l.tables) l.held l.failed l.column

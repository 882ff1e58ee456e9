use Rattle.draid_scrubs.specs.Wholes.{AreColumnsPatched}
use Rattle.draid_world.specs.World.{core_of, site_layout}
use Rattle.draid_scrubs.proofs.wholes.all_patched.Given as goal

abbrev pub invariant-loop-column : goal.invariant-loop-column
invariant-loop-column l = AreColumnsPatched (site_layout l.site) (core_of l.tables) l.held l.patched l.column

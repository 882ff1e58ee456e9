use Rattle.std.proofs.Common.{◌<◌, ℕ, get_or}
use Rattle.draid_scrubs.specs.Patches.{RowStands}
use Rattle.draid_world.specs.World.{core_of, site_layout}
use Rattle.draid_scrubs.proofs.patches.rows_stand.Given as goal

abbrev pub invariant-loop-row : goal.invariant-loop-row
invariant-loop-row l = (i : ℕ) → i < l.row-index → RowStands (site_layout l.site) (core_of l.tables) l.held l.failed l.patched l.part.column l.part.arm (get_or l.rows i 0)

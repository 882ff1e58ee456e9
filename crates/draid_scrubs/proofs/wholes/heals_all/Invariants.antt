use Rattle.std.proofs.Common.{◌<◌, ℕ, get_or}
use Rattle.draid_machine.specs.Step.{HealsThere}
use Rattle.draid_world.specs.World.{core_of, site_layout}
use Rattle.draid_scrubs.proofs.wholes.heals_all.Given as goal

abbrev pub invariant-loop-leaf : goal.invariant-loop-leaf
invariant-loop-leaf l = (i : ℕ) → i < l.leaf-index → HealsThere (site_layout l.site) (core_of l.tables) l.held (get_or l.leaves i 0)

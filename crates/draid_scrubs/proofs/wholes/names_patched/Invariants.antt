use Rattle.std.proofs.Common.{take}
use Rattle.draid_scrubs.specs.Wholes.{AreOn, IsArmPatched}
use Rattle.draid_world.specs.World.{core_of, site_layout}
use Rattle.draid_scrubs.proofs.wholes.names_patched.Given as goal

abbrev pub invariant-loop-name : goal.invariant-loop-name
invariant-loop-name l = AreOn (IsArmPatched (site_layout l.site) (core_of l.tables) l.held l.patched l.column) (take l.name-index l.names)

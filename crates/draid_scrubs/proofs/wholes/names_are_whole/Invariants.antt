use Rattle.std.proofs.Common.{take}
use Rattle.draid_scrubs.specs.Wholes.{AreOn, IsArmWhole}
use Rattle.draid_world.specs.World.{core_of, site_layout}
use Rattle.draid_scrubs.proofs.wholes.names_are_whole.Given as goal

abbrev pub invariant-loop-name : goal.invariant-loop-name
invariant-loop-name l = AreOn (IsArmWhole (site_layout l.site) (core_of l.tables) l.held l.failed) (take l.name-index l.names)

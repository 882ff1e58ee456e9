use Rattle.std.proofs.Common.{◌≡◌, take, count_by}
use Rattle.draid_machine.specs.Arms.{lies_on, is_silent}
use Rattle.draid_world.specs.World.{core_of, site_layout}
use Rattle.draid_images.proofs.seals.count_silent.Given as goal

abbrev pub invariant-loop-name : goal.invariant-loop-name
invariant-loop-name l = l.count ≡ count_by (lies_on (site_layout l.site) (core_of l.tables) (is_silent (core_of l.tables) l.failed)) (take l.name-index l.names)

use Rattle.std.proofs.Common.{◌≡◌, count_by, take}
use Rattle.draid_machine.specs.Arms.{is_silent, lies_on}
use Rattle.draid_world.specs.World.{core_of, site_layout}
use Rattle.draid_passes.proofs.ends.none_lies_on_silent.Given as goal

abbrev pub invariant-loop-name : goal.invariant-loop-name
invariant-loop-name l = count_by (lies_on (site_layout l.site) (core_of l.tables) (is_silent (core_of l.tables) l.failed)) (take l.name-index l.names) ≡ 0

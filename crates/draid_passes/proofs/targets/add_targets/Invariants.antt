use Rattle.std.proofs.Common.{◌≡◌, ◌++◌, filter, take}
use Rattle.draid_machine.specs.Arms.{is_target}
use Rattle.draid_world.specs.World.{core_of, site_layout}
use Rattle.draid_passes.proofs.targets.add_targets.Given as goal

abbrev pub invariant-loop-name : goal.invariant-loop-name
invariant-loop-name l =
    l.targets.items ≡ l.fn.targets.items ++ filter (is_target (site_layout l.site) (core_of l.tables) l.kind) (take l.name-index l.names)

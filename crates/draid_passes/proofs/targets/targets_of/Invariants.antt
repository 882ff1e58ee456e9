use Rattle.std.proofs.Common.{◌≡◌, filter}
use Rattle.draid_machine.specs.Arms.{is_target, arms_below}
use Rattle.draid_world.specs.World.{core_of, site_layout}
use Rattle.draid_passes.proofs.targets.targets_of.Given as goal

abbrev pub invariant-loop-slot : goal.invariant-loop-slot
invariant-loop-slot l =
    l.targets.items ≡ filter (is_target (site_layout l.site) (core_of l.tables) l.kind) (arms_below (core_of l.tables).order l.slot)

use Rattle.std.proofs.Common.{◌≡◌, take, filter, not}
use Rattle.draid_machine.specs.Arms.{lies_on, is_silent}
use Rattle.draid_world.specs.World.{core_of, site_layout}
use Rattle.draid_images.proofs.seals.kept_targets.Given as goal

abbrev pub invariant-loop-target : goal.invariant-loop-target
invariant-loop-target l = l.kept.items ≡ filter (λ n. not (lies_on (site_layout l.site) (core_of l.tables) (is_silent (core_of l.tables) l.failed) n)) (take l.target-index l.targets)

use Rattle.std.proofs.Common.{◌≡◌, not, filter, take}
use Rattle.draid_machine.specs.After.{misses_stripe}
use Rattle.draid_world.specs.World.{core_of, site_layout}
use Rattle.draid_passes.proofs.landings.kept.Given as goal

abbrev pub invariant-loop-name : goal.invariant-loop-name
invariant-loop-name l =
    l.out.items ≡ filter (λ n. not (misses_stripe (site_layout l.site) (core_of l.tables) l.stripe l.failed n)) (take l.name-index l.names)

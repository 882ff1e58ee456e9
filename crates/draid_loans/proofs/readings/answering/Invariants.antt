use Rattle.std.proofs.Common.{◌≡◌, ◌&&◌, not, filter, take}
use Rattle.draid_machine.specs.Arms as arms
use Rattle.draid_world.specs.World.{core_of, site_layout}
use Rattle.draid_loans.proofs.readings.answering.Given as goal

abbrev pub invariant-loop-name : goal.invariant-loop-name
invariant-loop-name l =
    l.found.items ≡ filter (λ n. arms.answers (site_layout l.site) (core_of l.tables) n l.stripe && not (arms.fails (site_layout l.site) (core_of l.tables) l.failed n l.stripe)) (take l.name-index l.names)

use Rattle.std.proofs.Common.{◌-◌, ◌<◌, ℕ}
use Rattle.draid_machine.specs.Step.{Fits}
use Rattle.draid_world.specs.World.{core_of, site_layout}
use Rattle.draid_steps.proofs.room.is_lowest.Given as goal

abbrev pub invariant-loop-next : goal.invariant-loop-next
invariant-loop-next l = (x : ℕ) → x < l.next → Fits (site_layout l.site) (core_of l.tables) x l.stripes → ⊥

abbrev pub decreases-loop-next : goal.decreases-loop-next
decreases-loop-next l = l.first - l.next

use Rattle.std.proofs.Common.{◌-◌}
use Rattle.draid_machine.specs.declared.names.ArmName.TheVariants.{Spare}
use Rattle.draid_world.specs.World.{core_of, names_at, site_layout}
use Rattle.draid_arms.specs.Moves.{moved_at}
use Rattle.draid_arms.proofs.Moved.{IsPassed}
use Rattle.draid_arms.proofs.moves.has_moved.Given as goal

abbrev pub invariant-loop-stripe : goal.invariant-loop-stripe
invariant-loop-stripe l = IsPassed (site_layout l.site).height l.stripe (moved_at (site_layout l.site) (names_at l.before) (core_of l.tables) (Spare l.spare))

abbrev pub decreases-loop-stripe : goal.decreases-loop-stripe
decreases-loop-stripe l = l.end - l.stripe

use Rattle.std.proofs.Common.{◌≡◌, ◌&&◌}
use Rattle.draid_machine.specs.Arms.{has_moved}
use Rattle.draid_machine.specs.Names.{has_name}
use Rattle.draid_machine.specs.declared.names.ArmName.{ArmName}
use Rattle.draid_world.specs.World.{core_of, site_layout}
use Rattle.draid_arms.specs.Moves.{core_before}
use Rattle.draid_arms.proofs.Moved.{is_spare_below}
use Rattle.draid_arms.proofs.moves.moved_of.Given as goal

abbrev pub invariant-loop-spare : goal.invariant-loop-spare
invariant-loop-spare l = (n : ArmName) →
    has_name l.moved.items n ≡ (is_spare_below l.spare n && has_moved (site_layout l.site) (core_before l.tables l.before) (core_of l.tables) n)

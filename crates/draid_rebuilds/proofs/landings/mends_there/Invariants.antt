use Rattle.std.proofs.Common.{◌≡◌, true, take}
use Rattle.draid_machine.specs.declared.names.ArmName.{ArmName}
use Rattle.draid_machine.specs.Names.{has_name}
use Rattle.draid_rebuilds.specs.Landings.{Keeps}
use Rattle.draid_world.specs.World.{core_of, site_layout}
use Rattle.draid_rebuilds.proofs.landings.mends_there.Given as goal

abbrev pub invariant-loop-at : goal.invariant-loop-at
invariant-loop-at l =
    (arm : ArmName) → has_name (take l.at l.pass.targets.items) arm ≡ true → Keeps (site_layout l.site) (core_of l.tables) l.stripe l.leaf arm → ⊥

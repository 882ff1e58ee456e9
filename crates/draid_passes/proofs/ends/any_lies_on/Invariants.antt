use Rattle.std.proofs.Common.{◌≡◌, ◌==◌, true, take}
use Rattle.draid_machine.specs.declared.names.ArmName.{ArmName}
use Rattle.draid_machine.specs.Arms.{lies_on}
use Rattle.draid_machine.specs.Names.{has_name}
use Rattle.draid_world.specs.World.{core_of, site_layout}
use Rattle.draid_passes.proofs.ends.any_lies_on.Given as goal

abbrev pub invariant-loop-name : goal.invariant-loop-name
invariant-loop-name l =
    (arm : ArmName) → has_name (take l.name-index l.names) arm ≡ true → lies_on (site_layout l.site) (core_of l.tables) (λ m. m == l.leaf) arm ≡ true → ⊥

use Rattle.std.proofs.Common.{◌≡◌, Some, true, take}
use Rattle.draid_machine.specs.declared.names.ArmName.{ArmName}
use Rattle.draid_machine.specs.Arms.{leaf_at}
use Rattle.draid_machine.specs.Names.{has_name}
use Rattle.draid_world.specs.World.{core_of, site_layout}
use Rattle.draid_passes.proofs.landings.any_answers.Given as goal

abbrev pub invariant-loop-name : goal.invariant-loop-name
invariant-loop-name l =
    (arm : ArmName) → has_name (take l.name-index l.names) arm ≡ true → leaf_at (site_layout l.site) (core_of l.tables).order arm l.stripe ≡ Some l.leaf → ⊥

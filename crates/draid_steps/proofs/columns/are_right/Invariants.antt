use Rattle.std.proofs.Common.{◌≡◌, drop, Bool}
use Rattle.std.specs.List.{list_all}
use Rattle.draid_machine.specs.declared.names.ArmName.{ArmName}
use Rattle.draid_steps.specs.Columns.{lands_right}
use Rattle.draid_world.specs.World.{core_of, site_layout}
use Rattle.draid_steps.proofs.columns.are_right.Given as goal

abbrev pub invariant-loop-name : goal.invariant-loop-name
invariant-loop-name l =
    let test : ArmName → Bool = lands_right (site_layout l.site) (core_of l.tables) l.stripe l.landed l.failed in
    list_all test l.names ≡ list_all test (drop l.name-index l.names)

use Rattle.std.proofs.Common.{◌≡◌, drop, Bool}
use Rattle.std.specs.List.{list_any}
use Rattle.draid_machine.specs.Arms as arms
use Rattle.draid_machine.specs.declared.names.ArmName.{ArmName}
use Rattle.draid_world.specs.World.{core_of, site_layout}
use Rattle.draid_steps.proofs.columns.is_used.Given as goal

abbrev pub invariant-loop-name : goal.invariant-loop-name
invariant-loop-name l =
    let test : ArmName → Bool = λ n. arms.lies (site_layout l.site) (core_of l.tables).order n l.stripe l.leaf in
    list_any test l.names ≡ list_any test (drop l.name-index l.names)

use Rattle.std.proofs.Common.{◌≡◌, drop, find}
use Rattle.draid_machine.specs.declared.names.ArmName.{ArmName}
use Rattle.draid_machine.specs.Arms as arms
use Rattle.draid_world.specs.World.{core_of, site_layout}
use Rattle.draid_world.proofs.site.Site.first_answering.Given as goal

abbrev pub invariant-loop-name : goal.invariant-loop-name
invariant-loop-name l =
    let test : ArmName → _ = λ n. arms.answers (site_layout l.self) (core_of l.tables) n l.stripe in
    find test l.names ≡ find test (drop l.name-index l.names)

use Rattle.std.proofs.Common.{◌≡◌, drop}
use Rattle.draid_machine.specs.Arms.{first_spare}
use Rattle.draid_world.proofs.arms.first_spare.Given as goal

abbrev pub invariant-loop-name : goal.invariant-loop-name
invariant-loop-name l = first_spare l.names ≡ first_spare (drop l.name-index l.names)

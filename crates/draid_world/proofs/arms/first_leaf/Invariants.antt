use Rattle.std.proofs.Common.{◌≡◌, drop}
use Rattle.draid_machine.specs.Arms.{first_leaf}
use Rattle.draid_world.proofs.arms.first_leaf.Given as goal

abbrev pub invariant-loop-name : goal.invariant-loop-name
invariant-loop-name l = first_leaf l.names ≡ first_leaf (drop l.name-index l.names)

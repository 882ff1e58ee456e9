use Rattle.draid_area.specs.Memory.{size_of_memory}
use Rattle.draid_uber.specs.Uber.{Valid}
use Rattle.draid_tests_devices.proofs.uber.commit_three.Given as goal

abbrev pub invariant-loop : goal.invariant-loop
invariant-loop l = Valid size_of_memory l.uber

use Rattle.std.proofs.Common.{◌≡◌, map, take}
use Rattle.draid_spacemap.specs.Records.{allocation}
use Rattle.draid_spacemap.proofs.map.allocations.Given as goal

abbrev pub invariant-loop-run : goal.invariant-loop-run
invariant-loop-run l = l.records.items ≡ map allocation (take l.run-index l.runs)

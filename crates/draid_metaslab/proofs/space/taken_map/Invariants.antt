use Rattle.std.proofs.Common.{take}
use Rattle.draid_ranges.specs.Runs.{has_in}
use Rattle.draid_spacemap.specs.Records.{Allocates}
use Rattle.draid_metaslab.proofs.space.taken_map.Given as goal

abbrev pub invariant-loop-run : goal.invariant-loop-run
invariant-loop-run l = Allocates l.map (has_in (take l.run-index l.taken))

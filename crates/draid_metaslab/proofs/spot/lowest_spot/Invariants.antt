use Rattle.draid_metaslab.specs.Spots.{IsSearched}
use Rattle.draid_metaslab.proofs.spot.lowest_spot.Given as goal

abbrev pub invariant-loop-run : goal.invariant-loop-run
invariant-loop-run l = IsSearched l.runs l.height l.len l.run-index l.largest

use Rattle.std.proofs.Common.{false, take}
use Rattle.draid_ranges.specs.Numbers.{Has}
use Rattle.draid_spacemap.specs.Records.{is_allocated_by}
use Rattle.draid_spacemap.proofs.map.replayed.Given as goal

abbrev pub invariant-loop-entry : goal.invariant-loop-entry
invariant-loop-entry l = Has l.set (is_allocated_by false (take l.entry-index l.records))

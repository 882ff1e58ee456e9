use Rattle.std.proofs.Common.{◌&&◌, not, nat_lt, take}
use Rattle.draid_ranges.specs.Numbers.{Has}
use Rattle.draid_ranges.specs.Runs.{has_in}
use Rattle.draid_metaslab.proofs.space.untaken.Given as goal

abbrev pub invariant-loop-run : goal.invariant-loop-run
invariant-loop-run l = Has l.set (λ x. nat_lt x l.total && not (has_in (take l.run-index l.taken) x))

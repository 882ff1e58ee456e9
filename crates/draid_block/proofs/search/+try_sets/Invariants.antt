use Rattle.std.proofs.Common.{◌+◌, ◌-◌}
use Rattle.draid_block.proofs.search.+try_sets.Given as goal

abbrev pub decreases-try_sets : goal.decreases-try_sets
decreases-try_sets l = l.search.now.geometry.now.spec.parity + l.search.now.geometry.now.spec.ndata - l.first

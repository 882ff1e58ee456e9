use Rattle.std.proofs.Common.{◌-◌, ◌^◌}
use Rattle.draid_pool.specs.Sealing.{FlushedBelow}
use Rattle.draid_pool.proofs.sealing.leaves_to_flush.Given as goal

abbrev pub invariant-loop-leaf : goal.invariant-loop-leaf
invariant-loop-leaf g l = FlushedBelow (g.R.Rack.shape l.rack) l.slots l.leaves.items l.from

abbrev pub decreases-loop-leaf : goal.decreases-loop-leaf
decreases-loop-leaf g l = 2 ^ 64 - l.from

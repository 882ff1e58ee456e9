use Rattle.draid_changes.specs.Detaching.{Leaves}
use Rattle.draid_changes.specs.Walks.{ChangedBelow}
use Rattle.draid_changes.proofs.detaching.detach_all.Given as goal

abbrev pub invariant-loop-metaslab : goal.invariant-loop-metaslab
invariant-loop-metaslab g l = ChangedBelow (Leaves g.R.Rack l.at l.arm) l.metaslab l.initial.shards.items l.shards.items

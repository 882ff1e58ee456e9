use Rattle.draid_changes.specs.Walks.{ChangedBelow}
use Rattle.draid_changes.specs.Attaching.{Attaches}
use Rattle.draid_changes.proofs.attaching.attach_all.Given as goal

abbrev pub invariant-loop-metaslab : goal.invariant-loop-metaslab
invariant-loop-metaslab g l = ChangedBelow (Attaches g.R.Rack l.slot l.kind l.number) l.metaslab l.initial.shards.items l.shards.items

use Rattle.draid_changes.specs.Upgrading.{UpgradesIn}
use Rattle.draid_changes.specs.Walks.{ChangedBelow}
use Rattle.draid_changes.proofs.upgrading.ask_all.Given as goal

abbrev pub invariant-loop-metaslab : goal.invariant-loop-metaslab
invariant-loop-metaslab g l = ChangedBelow (UpgradesIn g.R.Rack) l.metaslab l.initial.shards.items l.shards.items

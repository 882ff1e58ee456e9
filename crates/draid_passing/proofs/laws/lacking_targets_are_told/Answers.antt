use Rattle.draid_passing.proofs.Lacking.{none_told, told_none}
use Rattle.draid_passing.proofs.laws.lacking_targets_are_told.Goals as goal

pub returns : goal.returns
returns g c shard w v at = (none_told g.R.Rack shard v w at, told_none g.R.Rack shard v w at)

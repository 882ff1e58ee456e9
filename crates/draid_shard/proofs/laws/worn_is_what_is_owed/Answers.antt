use Rattle.draid_shard.proofs.OwedAll.{owed_is}
use Rattle.draid_shard.proofs.laws.worn_is_what_is_owed.Goals as goal

pub returns : goal.returns
returns g c shard w owed v is_in = owed_is g.R.Rack shard w owed v is_in

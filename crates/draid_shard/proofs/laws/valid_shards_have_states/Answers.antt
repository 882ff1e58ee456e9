use Rattle.draid_shard.proofs.Shown.{state_shown}
use Rattle.draid_shard.proofs.laws.valid_shards_have_states.Goals as goal

pub returns : goal.returns
returns g c shard v = state_shown g.R.Rack shard v

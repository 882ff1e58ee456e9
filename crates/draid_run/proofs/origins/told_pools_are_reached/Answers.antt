use Rattle.draid_run.proofs.Told.{shut_reached}
use Rattle.draid_run.proofs.origins.told_pools_are_reached.Goals as goal

pub returns : goal.returns
returns c shelf crash x tells holds = shut_reached x crash shelf.held tells holds.held

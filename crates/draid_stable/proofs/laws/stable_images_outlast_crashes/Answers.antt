use Rattle.draid_stable.proofs.Lasting.{stable_left}
use Rattle.draid_stable.proofs.laws.stable_images_outlast_crashes.Goals as goal

pub returns : goal.returns
returns c = stable_left

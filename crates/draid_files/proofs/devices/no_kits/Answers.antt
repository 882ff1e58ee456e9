use Rattle.draid_files.proofs.Nothing.{holds_none}
use Rattle.draid_files.proofs.devices.no_kits.Goals as goal

pub returns : goal.returns
returns c = λ m. holds_none _ _ m c.default.ensures.long c.default.ensures.at

use Rattle.draid_stable.proofs.Lasting.{flushed}
use Rattle.draid_stable.proofs.laws.standing_records_stay.Goals as goal

pub returns : goal.returns
returns c = flushed

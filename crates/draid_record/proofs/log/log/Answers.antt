use Rattle.std.proofs.Common.{refl}
use Rattle.draid_record.proofs.Steps.{number_then}
use Rattle.draid_record.proofs.log.log.Goals as goal

pub returns : goal.returns
returns c = rw c.of.ensures (number_then 4 _ _ _ _ _ _ _ _ _ _ refl c.from.ensures c.number-count.ensures.reads c.in_ok-runs.ensures.runs)

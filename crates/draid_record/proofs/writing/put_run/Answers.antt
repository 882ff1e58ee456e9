use Rattle.draid_record.proofs.Adding.{both}
use Rattle.draid_record.proofs.writing.put_run.Goals as goal

pub returns : goal.returns
returns c = both _ _ _ _ _ c.put.ensures c.put-2.ensures

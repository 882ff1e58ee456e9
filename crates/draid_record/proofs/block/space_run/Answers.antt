use Rattle.std.proofs.Common.{refl}
use Rattle.draid_record.proofs.Steps.{done, number_then}
use Rattle.draid_record.proofs.block.space_run.Goals as goal

pub returns : goal.returns
returns c =
    number_then 8 _ _ _ _ _ _ _ _ _ _ refl refl c.number-first.ensures.reads
    (number_then 8 _ _ _ _ _ _ _ _ _ _ refl refl c.number-len.ensures.reads (done _ _))

use Rattle.std.proofs.Common.{refl}
use Rattle.draid_record.proofs.Steps.{check_then, done, number_then}
use Rattle.draid_record.proofs.uber.head.Goals as goal

pub returns : goal.returns
returns c =
    number_then 1 _ _ _ _ _ _ _ _ _ _ refl refl c.exactly.ensures.reads
    (number_then 4 _ _ _ _ _ _ _ _ _ _ refl refl c.exactly-2.ensures.reads
    (number_then 2 _ _ _ _ _ _ _ _ _ _ refl refl c.number-version.ensures.reads
    (number_then 8 _ _ _ _ _ _ _ _ _ _ refl refl c.number-group.ensures.reads
    (check_then _ _ 8 _ _ _ _ _ refl c.check.ensures (done _ _)))))

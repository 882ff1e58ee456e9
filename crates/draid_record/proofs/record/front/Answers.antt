use Rattle.std.proofs.Common.{refl}
use Rattle.draid_record.proofs.Steps.{done, number_then, took_more}
use Rattle.draid_record.proofs.record.front.Goals as goal

pub returns-clause-front : goal.returns-clause-front
returns-clause-front c =
    number_then 4 _ _ _ _ _ _ _ _ _ _ refl refl c.exactly.ensures.reads
    (number_then 2 _ _ _ _ _ _ _ _ _ _ c.from.ensures c.from.ensures c.exactly-2.ensures.reads
    (number_then 4 _ _ _ _ _ _ _ _ _ _ refl refl c.number.ensures.reads (done _ _)))

pub returns-clause-took : goal.returns-clause-took
returns-clause-took c = took_more 6 4 _ _ _ (took_more 4 2 _ _ _ c.exactly.ensures.took c.exactly-2.ensures.took) c.number.ensures.took

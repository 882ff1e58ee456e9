use Rattle.std.proofs.Common.{ap, refl}
use Rattle.std.specs.Prelude.{◌==◌}
use Rattle.draid_record.proofs.Steps.{check_then, done, number_then, text_then}
use Rattle.draid_record.proofs.block.block.Goals as goal

pub returns-clause-block : goal.returns-clause-block
returns-clause-block c =
    number_then 8 _ _ _ _ _ _ _ _ _ _ refl refl c.number-object.ensures.reads
    (number_then 8 _ _ _ _ _ _ _ _ _ _ refl refl c.number-seq.ensures.reads
    (number_then 8 _ _ _ _ _ _ _ _ _ _ refl c.saturating_sub.ensures c.number-first.ensures.reads
    (number_then 4 _ _ _ _ _ _ _ _ _ _ refl refl c.number-stripes.ensures.reads
    (number_then 4 _ _ _ _ _ _ _ _ _ _ refl refl c.number-len.ensures.reads
    (check_then _ _ 8 _ _ _ _ _ (ap (λ n. c.number-stripes.result == n) c.stripes_of.ensures) c.check.ensures
    (number_then 8 _ _ _ _ _ _ _ _ _ _ refl refl c.number-birth.ensures.reads
    (text_then 32 _ _ _ _ _ _ c.digest.ensures (done _ _))))))))

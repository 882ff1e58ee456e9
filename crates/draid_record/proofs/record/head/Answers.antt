use Rattle.std.proofs.Common.{ℕ, refl, subst}
use Rattle.draid_record.specs.Reader.{Reads, state_of}
use Rattle.draid_record.specs.Record as spec
use Rattle.draid_record.proofs.Steps.{done, number_then}
use Rattle.draid_record.proofs.record.head.Goals as goal

pub returns : goal.returns
returns c =
    let R : ℕ → Type 0 = λ n. Reads (state_of c.args.reader.now) (state_of c.exactly-3.new.self) n (spec.head c.args.limits.now) in
    subst R c.from-2.ensures
    (number_then 2 _ _ _ _ _ _ _ _ _ _ c.from.ensures c.from.ensures c.exactly.ensures.reads
    (number_then 8 _ _ _ _ _ _ _ _ _ _ refl refl c.exactly-2.ensures.reads
    (number_then 2 _ _ _ _ _ _ _ _ _ _ c.from-2.ensures c.from-2.ensures c.exactly-3.ensures.reads (done _ _))))

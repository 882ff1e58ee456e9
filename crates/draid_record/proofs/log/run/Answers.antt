use Rattle.std.proofs.Common.{refl, ℕ}
use Rattle.draid_ranges.specs.declared.run.Run.{Run}
use Rattle.draid_record.specs.Reader.{state_of}
use Rattle.draid_record.proofs.Steps.{done, number_then}
use Rattle.draid_record.proofs.log.run.Goals as goal

pub returns-clause-run : goal.returns-clause-run
returns-clause-run c =
    let a = state_of c.args.reader.now in
    let b = state_of c.number-first.new.self in
    let e = state_of c.number-last.new.self in
    let value : ℕ → Run = λ len. record { first = c.number-first.result; len = len } in
    rw c.saturating_sub.ensures (number_then 8 _ _ _ _ _ a b e c.number-first.result _ refl refl c.number-first.ensures.reads
    (number_then 8 _ _ _ _ _ b e e c.number-last.result _ refl refl c.number-last.ensures.reads (done e _)))

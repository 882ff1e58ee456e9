use Rattle.std.proofs.Common.{◌∙◌, inl, inr, sym}
use Rattle.draid_run.proofs.Exits.{same_later}
use Rattle.draid_run.proofs.Printing.{prints_all, prints_none}
use Rattle.draid_run.proofs.top.put_last.Goals as goal

pub returns-then-is_empty : goal.returns-then-is_empty
returns-then-is_empty g c = record {
  line = prints_none c.args.line.now (g.K.Sink.held c.args.sink.now) c.args.ended (sym c.is_empty.ensures ∙ c.if-is_empty.true);
  later = same_later (g.K.Sink.faults c.args.sink.now);
  cause = λ is. inl is;
}

pub returns-in-Ok : goal.returns-in-Ok
returns-in-Ok g c = record {
  line = prints_all c.args.line.now (g.K.Sink.held c.args.sink.now) (g.K.Sink.held c.put.new.self) c.args.ended c.in-Ok.ensures.bytes;
  later = c.put.ensures.cause.later;
  cause = λ is. inl is;
}

pub returns-in-Err : goal.returns-in-Err
returns-in-Err g c = record {
  line = c.in-Err.ensures.bytes;
  later = c.put.ensures.cause.later;
  cause = λ is. inr c.in-Err.ensures.cause.cause;
}

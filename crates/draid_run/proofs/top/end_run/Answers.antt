use Rattle.std.proofs.Common.{◌≡◌, ◌∙◌, inl, inr, refl, subst, sym, Result, String, Global}
use Rattle.std.specs.Prelude.{IfOk, string_bytes}
use Rattle.std.specs.declared.alloc.AllocError.{AllocError}
use Rattle.draid_exits.specs.Status.{last_text}
use Rattle.draid_exits.specs.declared.status.Status.TheVariants.{NoMemory}
use Rattle.draid_run.proofs.Printing.{ends_with, no_done, no_shelf, no_sink, no_source, no_usage, prints_done, prints_shelf, prints_source, prints_usage}
use Rattle.draid_run.proofs.top.end_run.Goals as goal

pub returns-in-Some-Ok : goal.returns-in-Some-Ok
returns-in-Some-Ok g c = record {
  line = ends_with c.as_bytes.result.now (g.K.Sink.held c.args.sink.now) (g.K.Sink.held c.put_last.new.sink) c.args.ended c.args.ended c.put_last.result (inl refl) (c.as_bytes.ensures.value ∙ subst (λ (r : Result (String Global) AllocError). IfOk r (λ text. string_bytes text ≡ last_text c.args.ended)) c.in-Some-Ok.field-0-is c.in-Some-Ok.ensures.some) c.put_last.ensures.line;
  later = c.put_last.ensures.later;
  cause = c.put_last.ensures.cause;
  done = prints_done c.as_bytes.result.now (g.K.Sink.held c.args.sink.now) (g.K.Sink.held c.put_last.new.sink) c.args.ended c.put_last.result c.put_last.ensures.line;
  usage = prints_usage c.as_bytes.result.now (g.K.Sink.held c.args.sink.now) (g.K.Sink.held c.put_last.new.sink) c.args.ended c.put_last.result c.put_last.ensures.line;
  source = prints_source c.as_bytes.result.now (g.K.Sink.held c.args.sink.now) (g.K.Sink.held c.put_last.new.sink) c.args.ended c.put_last.result c.put_last.ensures.line;
  shelf = prints_shelf c.as_bytes.result.now (g.K.Sink.held c.args.sink.now) (g.K.Sink.held c.put_last.new.sink) c.args.ended c.put_last.result c.put_last.ensures.line;
}

pub returns-in-None : goal.returns-in-None
returns-in-None g c = record {
  line = ends_with c.as_bytes-in-None.result.now (g.K.Sink.held c.args.sink.now) (g.K.Sink.held c.put_last-in-None.new.sink) c.args.ended c.args.ended c.put_last-in-None.result (inl refl) (c.as_bytes-in-None.ensures.value ∙ c.fixed_line-in-None.ensures ∙ sym c.in-None.ensures.none) c.put_last-in-None.ensures.line;
  later = c.put_last-in-None.ensures.later;
  cause = c.put_last-in-None.ensures.cause;
  done = prints_done c.as_bytes-in-None.result.now (g.K.Sink.held c.args.sink.now) (g.K.Sink.held c.put_last-in-None.new.sink) c.args.ended c.put_last-in-None.result c.put_last-in-None.ensures.line;
  usage = prints_usage c.as_bytes-in-None.result.now (g.K.Sink.held c.args.sink.now) (g.K.Sink.held c.put_last-in-None.new.sink) c.args.ended c.put_last-in-None.result c.put_last-in-None.ensures.line;
  source = prints_source c.as_bytes-in-None.result.now (g.K.Sink.held c.args.sink.now) (g.K.Sink.held c.put_last-in-None.new.sink) c.args.ended c.put_last-in-None.result c.put_last-in-None.ensures.line;
  shelf = prints_shelf c.as_bytes-in-None.result.now (g.K.Sink.held c.args.sink.now) (g.K.Sink.held c.put_last-in-None.new.sink) c.args.ended c.put_last-in-None.result c.put_last-in-None.ensures.line;
}

pub returns-in-Some-Err : goal.returns-in-Some-Err
returns-in-Some-Err g c = record {
  line = ends_with c.as_bytes-in-Some-Err.result.now (g.K.Sink.held c.args.sink.now) (g.K.Sink.held c.put_last-in-Some-Err.new.sink) NoMemory c.args.ended c.put_last-in-Some-Err.result (inr (refl, c.in-Some-Err.ensures.number)) (c.as_bytes-in-Some-Err.ensures.value ∙ c.fixed_line.ensures) c.put_last-in-Some-Err.ensures.line;
  later = c.put_last-in-Some-Err.ensures.later;
  cause = no_sink c.put_last-in-Some-Err.result _ _ c.put_last-in-Some-Err.ensures.cause;
  done = no_done c.put_last-in-Some-Err.result (prints_done c.as_bytes-in-Some-Err.result.now (g.K.Sink.held c.args.sink.now) (g.K.Sink.held c.put_last-in-Some-Err.new.sink) NoMemory c.put_last-in-Some-Err.result c.put_last-in-Some-Err.ensures.line) _;
  usage = no_usage c.put_last-in-Some-Err.result (prints_usage c.as_bytes-in-Some-Err.result.now (g.K.Sink.held c.args.sink.now) (g.K.Sink.held c.put_last-in-Some-Err.new.sink) NoMemory c.put_last-in-Some-Err.result c.put_last-in-Some-Err.ensures.line) _;
  source = no_source c.put_last-in-Some-Err.result (prints_source c.as_bytes-in-Some-Err.result.now (g.K.Sink.held c.args.sink.now) (g.K.Sink.held c.put_last-in-Some-Err.new.sink) NoMemory c.put_last-in-Some-Err.result c.put_last-in-Some-Err.ensures.line) _;
  shelf = no_shelf c.put_last-in-Some-Err.result (prints_shelf c.as_bytes-in-Some-Err.result.now (g.K.Sink.held c.args.sink.now) (g.K.Sink.held c.put_last-in-Some-Err.new.sink) NoMemory c.put_last-in-Some-Err.result c.put_last-in-Some-Err.ensures.line) _;
}

use Rattle.std.proofs.Common.{◌∙◌, Ok, [], ap, subst, sym}
use Rattle.std.specs.Fn.{FnReturnsAt}
use Rattle.draid_agent.specs.Policy.{PolicyReturns}
use Rattle.draid_session.specs.Choices.{choices_with}
use Rattle.draid_session.specs.Said.{alone}
use Rattle.draid_script.specs.Line.{command_in}
use Rattle.draid_run.specs.Lines.{IsNoOpening}
use Rattle.draid_run.specs.Serve.{AnswerIs}
use Rattle.draid_pool.specs.Shelves.{on_shelf}
use Rattle.draid_run.proofs.Exits.{Answered, answered_outside, done_cause, line_stopped, line_told, no_opening, same_later, stop_cause}
use Rattle.draid_print.proofs.Appending.{appends_none}
use Rattle.draid_run.proofs.serve.serve_command.Goals as goal

pub returns-in-Ok-Some : goal.returns-in-Ok-Some
returns-in-Ok-Some g c = record {
  line = λ text entry x is desk.
      (let answered = subst (λ r. AnswerIs g.H.R.Rack g.H.A.Area (choices_with (FnReturnsAt g.F.Fn c.args.chooser.now) (PolicyReturns g.P.Fn c.args.policy.now)) c.args.journal.now.entries c.answer.new.journal.entries (command_in c.args.line.now) entry (on_shelf g.H.Shelf c.args.shelf.now) c.args.pool.now x (on_shelf g.H.Shelf c.answer.new.shelf) c.answer.new.pool r)
      (c.in-Ok-Some.is ∙ ap Ok c.in-Ok-Some.field-0-is) (c.answer.ensures.answer entry x desk) in
      line_told g.H.R.Rack g.H.A.Area (choices_with (FnReturnsAt g.F.Fn c.args.chooser.now) (PolicyReturns g.P.Fn c.args.policy.now)) c.args.journal.now.entries c.answer.new.journal.entries c.args.number text entry (on_shelf g.H.Shelf c.args.shelf.now) c.args.pool.now x (on_shelf g.H.Shelf c.answer.new.shelf) c.answer.new.pool
      c.in-Ok-Some.reply (g.K.Sink.held c.args.sink.now) (g.K.Sink.held c.print_reply.new.sink) (subst IsNoOpening (sym is) (no_opening (command_in c.args.line.now) c.requires.alone)) c.print_reply.result
      (subst (Answered g.H.R.Rack g.H.A.Area (choices_with (FnReturnsAt g.F.Fn c.args.chooser.now) (PolicyReturns g.P.Fn c.args.policy.now)) c.args.journal.now.entries c.answer.new.journal.entries entry (on_shelf g.H.Shelf c.args.shelf.now) c.args.pool.now x (alone c.in-Ok-Some.reply) (on_shelf g.H.Shelf c.answer.new.shelf) c.answer.new.pool) (sym is) answered)
      c.print_reply.ensures.prints);
  later = c.print_reply.ensures.later;
  cause = c.print_reply.ensures.cause;
  shelf_later = c.answer.ensures.later;
}

pub returns-in-Ok-None : goal.returns-in-Ok-None
returns-in-Ok-None g c = record {
  line = λ text entry x is desk.
      (let answered = subst (λ r. AnswerIs g.H.R.Rack g.H.A.Area (choices_with (FnReturnsAt g.F.Fn c.args.chooser.now) (PolicyReturns g.P.Fn c.args.policy.now)) c.args.journal.now.entries c.answer.new.journal.entries (command_in c.args.line.now) entry (on_shelf g.H.Shelf c.args.shelf.now) c.args.pool.now x (on_shelf g.H.Shelf c.answer.new.shelf) c.answer.new.pool r)
      (c.in-Ok-None.is ∙ ap Ok c.in-Ok-None.field-0-is) (c.answer.ensures.answer entry x desk) in
      let it = subst (Answered g.H.R.Rack g.H.A.Area (choices_with (FnReturnsAt g.F.Fn c.args.chooser.now) (PolicyReturns g.P.Fn c.args.policy.now)) c.args.journal.now.entries c.answer.new.journal.entries entry (on_shelf g.H.Shelf c.args.shelf.now) c.args.pool.now x [] (on_shelf g.H.Shelf c.answer.new.shelf) c.answer.new.pool) (sym is) answered in
      record { saids = []; placed = answered_outside g.H.R.Rack g.H.A.Area (choices_with (FnReturnsAt g.F.Fn c.args.chooser.now) (PolicyReturns g.P.Fn c.args.policy.now)) c.args.journal.now.entries c.answer.new.journal.entries text entry (on_shelf g.H.Shelf c.args.shelf.now) c.args.pool.now x [] (on_shelf g.H.Shelf c.answer.new.shelf) c.answer.new.pool (subst IsNoOpening (sym is) (no_opening (command_in c.args.line.now) c.requires.alone)) it; firm = it.2; prints = appends_none (g.K.Sink.held c.args.sink.now) });
  later = same_later (g.K.Sink.faults c.args.sink.now);
  cause = done_cause _;
  shelf_later = c.answer.ensures.later;
}

pub returns-in-Err : goal.returns-in-Err
returns-in-Err g c = record {
  line = λ text entry x is desk.
      line_stopped g.H.R.Rack g.H.A.Area (choices_with (FnReturnsAt g.F.Fn c.args.chooser.now) (PolicyReturns g.P.Fn c.args.policy.now)) c.args.journal.now.entries c.answer.new.journal.entries c.args.number text entry (on_shelf g.H.Shelf c.args.shelf.now) c.args.pool.now x (on_shelf g.H.Shelf c.answer.new.shelf) c.answer.new.pool (g.K.Sink.held c.args.sink.now)
      (command_in c.args.line.now) is c.in-Err.stop c.stopped.result c.stopped.ensures
      (subst (λ r. AnswerIs g.H.R.Rack g.H.A.Area (choices_with (FnReturnsAt g.F.Fn c.args.chooser.now) (PolicyReturns g.P.Fn c.args.policy.now)) c.args.journal.now.entries c.answer.new.journal.entries (command_in c.args.line.now) entry (on_shelf g.H.Shelf c.args.shelf.now) c.args.pool.now x (on_shelf g.H.Shelf c.answer.new.shelf) c.answer.new.pool r)
      c.in-Err.is (c.answer.ensures.answer entry x desk));
  later = same_later (g.K.Sink.faults c.args.sink.now);
  cause = stop_cause _ c.args.number c.in-Err.stop c.stopped.result c.stopped.ensures;
  shelf_later = c.answer.ensures.later;
}

pub answer-requires-clause-chooser : goal.answer-requires-clause-chooser
answer-requires-clause-chooser g c κs within = c.requires.chooser

pub answer-requires-clause-range : goal.answer-requires-clause-range
answer-requires-clause-range g c κs within = c.requires.range

pub answer-requires-clause-desk : goal.answer-requires-clause-desk
answer-requires-clause-desk g c κs within = c.requires.desk

pub answer-requires-clause-policy : goal.answer-requires-clause-policy
answer-requires-clause-policy g c κs within = c.requires.policy

pub answer-requires-clause-alone : goal.answer-requires-clause-alone
answer-requires-clause-alone g c κs within = c.requires.alone

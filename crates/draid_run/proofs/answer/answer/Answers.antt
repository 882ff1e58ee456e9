use Rattle.std.proofs.Common.{◌∙◌, [], Some, Ok, ap, refl, subst, sym}
use Rattle.std.proofs.lemmas.List.{append-nil}
use Rattle.std.specs.Fn.{FnReturnsAt}
use Rattle.draid_agent.specs.Policy.{PolicyReturns}
use Rattle.draid_session.specs.Choices.{choices_with}
use Rattle.draid_script.specs.Line.{CreatePool, command_in}
use Rattle.draid_script.specs.declared.line.Line.{Line}
use Rattle.draid_pool.specs.Shelves.{on_shelf}
use Rattle.draid_run.specs.Serve.{AnswerIs}
use Rattle.draid_run.proofs.Agents.{answer_agent, answer_journal}
use Rattle.draid_run.proofs.Deciding.{asked_with}
use Rattle.draid_run.proofs.Asking.{answer_ask, answer_create, asks_pool, turned_silent}
use Rattle.draid_run.proofs.Exits.{same_later}
use Rattle.draid_run.proofs.Closings.{answer_export, by_crash}
use Rattle.draid_run.proofs.Crashing.{crash_firm}
use Rattle.draid_run.proofs.Importings.{answer_import}
use Rattle.draid_run.proofs.answer.answer.Goals as goal

pub returns-in-Export : goal.returns-in-Export
returns-in-Export g c = record {
  answer = λ entry x desk.
      subst (λ (l : Line). AnswerIs g.H.R.Rack g.H.A.Area (choices_with (FnReturnsAt g.F.Fn c.args.chooser.now) (PolicyReturns g.P.Fn c.args.policy.now)) c.args.journal.now.entries c.args.journal.now.entries (command_in l) entry (on_shelf g.H.Shelf c.args.shelf.now) c.args.pool.now x (on_shelf g.H.Shelf c.export.new.shelf) c.export.new.pool c.said-in-Export.result) (sym c.in-Export.is)
      (answer_export g.H.R.Rack g.H.A.Area (choices_with (FnReturnsAt g.F.Fn c.args.chooser.now) (PolicyReturns g.P.Fn c.args.policy.now)) entry (on_shelf g.H.Shelf c.args.shelf.now) (on_shelf g.H.Shelf c.export.new.shelf) c.args.journal.now.entries c.args.pool.now x c.export.new.pool c.export.result c.said-in-Export.result c.said-in-Export.ensures (c.export.ensures.answer entry x desk));
  later = c.export.ensures.later;
}

pub returns-in-Crash : goal.returns-in-Crash
returns-in-Crash g c = record {
  answer = λ entry x desk.
      (let did = c.crash.ensures.did entry x desk in
      subst (λ (l : Line). AnswerIs g.H.R.Rack g.H.A.Area (choices_with (FnReturnsAt g.F.Fn c.args.chooser.now) (PolicyReturns g.P.Fn c.args.policy.now)) c.args.journal.now.entries c.args.journal.now.entries (command_in l) entry (on_shelf g.H.Shelf c.args.shelf.now) c.args.pool.now x (on_shelf g.H.Shelf c.crash.new.shelf) c.crash.new.pool (Ok (Some c.crash.result))) (sym c.in-Crash.is) (
        by_crash g.H.R.Rack g.H.A.Area (choices_with (FnReturnsAt g.F.Fn c.args.chooser.now) (PolicyReturns g.P.Fn c.args.policy.now)) entry (on_shelf g.H.Shelf c.args.shelf.now) (on_shelf g.H.Shelf c.crash.new.shelf) x c.crash.result c.crash.new.pool did,
        ([], refl, sym (append-nil c.args.journal.now.entries)),
        crash_firm (on_shelf g.H.Shelf c.crash.new.shelf) c.crash.new.pool c.crash.result did.firm,
      ));
  later = c.crash.ensures.later;
}

pub returns-in-Import : goal.returns-in-Import
returns-in-Import g c = record {
  answer = λ entry x desk.
      subst (λ (l : Line). AnswerIs g.H.R.Rack g.H.A.Area (choices_with (FnReturnsAt g.F.Fn c.args.chooser.now) (PolicyReturns g.P.Fn c.args.policy.now)) c.args.journal.now.entries c.args.journal.now.entries (command_in l) entry (on_shelf g.H.Shelf c.args.shelf.now) c.args.pool.now x (on_shelf g.H.Shelf c.import.new.shelf) c.import.new.pool c.said-in-Import.result) (sym c.in-Import.is)
      (answer_import g.H.R.Rack g.H.A.Area (choices_with (FnReturnsAt g.F.Fn c.args.chooser.now) (PolicyReturns g.P.Fn c.args.policy.now)) entry (on_shelf g.H.Shelf c.args.shelf.now) (on_shelf g.H.Shelf c.import.new.shelf) c.args.journal.now.entries c.args.pool.now x c.import.new.pool c.import.result c.said-in-Import.result c.said-in-Import.ensures (c.import.ensures.answer entry x desk));
  later = c.import.ensures.later;
}

pub returns-in_default : goal.returns-in_default
returns-in_default g c = record {
  answer = λ entry x desk.
      answer_ask g.H.R.Rack g.H.A.Area (choices_with (FnReturnsAt g.F.Fn c.args.chooser.now) (PolicyReturns g.P.Fn c.args.policy.now)) c.args.journal.now.entries entry (on_shelf g.H.Shelf c.args.shelf.now) c.args.pool.now x desk (command_in c.args.line.now)
      c.ask.new.pool c.ask.result c.said-in_default.result c.said-in_default.ensures
      (asked_with g.H.R.Rack g.H.A.Area (FnReturnsAt g.F.Fn c.args.chooser.now) (PolicyReturns g.P.Fn c.args.policy.now) (command_in c.args.line.now) c.args.pool.now x c.ask.new.pool c.ask.result (c.ask.ensures.did x desk.stands));
  later = same_later (g.H.Shelf.faults c.args.shelf.now);
}

pub returns-in-Create : goal.returns-in-Create
returns-in-Create g c = record {
  answer = λ entry x desk.
      subst (λ k. AnswerIs g.H.R.Rack g.H.A.Area (choices_with (FnReturnsAt g.F.Fn c.args.chooser.now) (PolicyReturns g.P.Fn c.args.policy.now)) c.args.journal.now.entries c.args.journal.now.entries k entry (on_shelf g.H.Shelf c.args.shelf.now) c.args.pool.now x (on_shelf g.H.Shelf c.create.new.shelf) c.create.new.pool c.said.result)
      (sym (ap command_in c.in-Create.is ∙ ap (λ text. CreatePool text c.in-Create.children c.in-Create.keys) (sym c.deref.ensures.value)))
      (answer_create g.H.R.Rack g.H.A.Area (choices_with (FnReturnsAt g.F.Fn c.args.chooser.now) (PolicyReturns g.P.Fn c.args.policy.now)) c.args.journal.now.entries entry (on_shelf g.H.Shelf c.args.shelf.now) (on_shelf g.H.Shelf c.create.new.shelf) c.args.pool.now x c.create.new.pool c.deref.result.now c.in-Create.children c.in-Create.keys c.create.result c.said.result c.said.ensures (c.create.ensures.answer entry x desk));
  later = c.create.ensures.later;
}

pub returns-in-Nothing : goal.returns-in-Nothing
returns-in-Nothing g c = record {
  answer = λ entry x desk.
      turned_silent g.H.R.Rack g.H.A.Area (choices_with (FnReturnsAt g.F.Fn c.args.chooser.now) (PolicyReturns g.P.Fn c.args.policy.now)) c.args.journal.now.entries entry (on_shelf g.H.Shelf c.args.shelf.now) c.args.pool.now x c.args.line.now c.in-Nothing.is desk;
  later = same_later (g.H.Shelf.faults c.args.shelf.now);
}

pub returns-in-Agent : goal.returns-in-Agent
returns-in-Agent g c = record {
  answer = λ entry x desk.
      subst (λ (l : Line). AnswerIs g.H.R.Rack g.H.A.Area (choices_with (FnReturnsAt g.F.Fn c.args.chooser.now) (PolicyReturns g.P.Fn c.args.policy.now)) c.args.journal.now.entries c.ask_agent.new.journal.entries (command_in l) entry (on_shelf g.H.Shelf c.args.shelf.now) c.args.pool.now x (on_shelf g.H.Shelf c.args.shelf.now) c.ask_agent.new.pool c.said-in-Agent.result) (sym c.in-Agent.is)
      (answer_agent g.H.R.Rack g.H.A.Area (FnReturnsAt g.F.Fn c.args.chooser.now) (PolicyReturns g.P.Fn c.args.policy.now) c.in-Agent.least c.args.journal.now.entries c.ask_agent.new.journal.entries entry (on_shelf g.H.Shelf c.args.shelf.now) c.args.pool.now x desk c.ask_agent.new.pool c.ask_agent.result c.said-in-Agent.result c.said-in-Agent.ensures
      (c.ask_agent.ensures.did x desk.stands));
  later = same_later (g.H.Shelf.faults c.args.shelf.now);
}

pub returns-in-AgentLog : goal.returns-in-AgentLog
returns-in-AgentLog g c = record {
  answer = λ entry x desk.
      subst (λ (l : Line). AnswerIs g.H.R.Rack g.H.A.Area (choices_with (FnReturnsAt g.F.Fn c.args.chooser.now) (PolicyReturns g.P.Fn c.args.policy.now)) c.args.journal.now.entries c.args.journal.now.entries (command_in l) entry (on_shelf g.H.Shelf c.args.shelf.now) c.args.pool.now x (on_shelf g.H.Shelf c.args.shelf.now) c.args.pool.now (Ok (Some c.ask_journal.result))) (sym c.in-AgentLog.is)
      (answer_journal g.H.R.Rack g.H.A.Area (choices_with (FnReturnsAt g.F.Fn c.args.chooser.now) (PolicyReturns g.P.Fn c.args.policy.now)) c.args.journal.now.entries entry (on_shelf g.H.Shelf c.args.shelf.now) c.args.pool.now x desk c.ask_journal.result c.ask_journal.ensures);
  later = same_later (g.H.Shelf.faults c.args.shelf.now);
}

pub ask-requires-clause-chooser : goal.ask-requires-clause-chooser
ask-requires-clause-chooser g c κs within = c.requires.chooser

pub ask-requires-clause-range : goal.ask-requires-clause-range
ask-requires-clause-range g c κs within = c.requires.range

pub ask-requires-clause-asks : goal.ask-requires-clause-asks
ask-requires-clause-asks g c κs within =
    asks_pool c.args.line.now c.in_default.not-Nothing c.in_default.not-Create c.in_default.not-Import c.in_default.not-Export c.in_default.not-Crash c.in_default.not-Agent c.in_default.not-AgentLog c.requires.alone

pub ask-requires-clause-desk : goal.ask-requires-clause-desk
ask-requires-clause-desk g c κs within = c.requires.desk

pub export-requires-clause-desk : goal.export-requires-clause-desk
export-requires-clause-desk g c κs within = c.requires.desk

pub crash-requires-clause-desk : goal.crash-requires-clause-desk
crash-requires-clause-desk g c κs within = c.requires.desk

pub ask_agent-requires-clause-policy : goal.ask_agent-requires-clause-policy
ask_agent-requires-clause-policy g c = c.requires.policy

pub ask_agent-requires-clause-desk : goal.ask_agent-requires-clause-desk
ask_agent-requires-clause-desk g c = c.requires.desk

use Rattle.std.proofs.Common.{◌∙◌, ap, inl, refl, subst, Err, map}
use Rattle.std.specs.Prelude.{string_bytes}
use Rattle.std.specs.Fn.{FnReturnsAt}
use Rattle.draid_agent.specs.Policy.{PolicyReturns}
use Rattle.draid_session.specs.Choices.{choices_with}
use Rattle.draid_pool.specs.Shelves.{on_shelf}
use Rattle.draid_run.specs.Shelves.{DeviceFailed}
use Rattle.draid_run.proofs.Ended.{run_refused, run_unread}
use Rattle.draid_run.proofs.WorkloadEnds.{session_asked, session_input, workload_asked, workload_none}
use Rattle.draid_exits.specs.declared.status.Status.TheVariants.{NoMemory, ShelfFault, SourceFault, Usage}
use Rattle.draid_run.proofs.Exits.{blameless, memory_done, same_later, sink_last, usage_done}
use Rattle.draid_run.proofs.top.run.Goals as goal

pub returns-in-Ok-Session : goal.returns-in-Ok-Session
returns-in-Ok-Session g c =
    let a = c.in-Ok-Session in
    let words = map string_bytes c.args.words.now in
    let session = session_asked words _ _ _ c.read_words.ensures.mode a.is a.field-0-is in
    record {
      run = inl (c.run_session.ensures.run words session);
      done = λ is asks. c.run_session.ensures.done is;
      untouched = λ none. absurd (none session);
      source_later = c.run_session.ensures.source_later;
      sink_later = c.run_session.ensures.sink_later;
      shelf_later = c.run_session.ensures.shelf_later;
      source_fault = c.run_session.ensures.source_fault;
      sink_fault = c.run_session.ensures.sink_fault;
      shelf_fault = λ is. subst (λ i. DeviceFailed i (on_shelf g.H.Shelf c.args.shelf.now) (on_shelf g.H.Shelf c.run_session.new.shelf)) (session_input words _ _ session.1) (c.run_session.ensures.shelf_fault is);
    }

pub returns-in-Ok-Workload : goal.returns-in-Ok-Workload
returns-in-Ok-Workload g c =
    let a = c.in-Ok-Workload in
    let words = map string_bytes c.args.words.now in
    let asks = workload_asked words _ _ a.number c.read_words.ensures.mode a.is a.field-0-is in
    record {
      run = c.run_workload.ensures.run words (g.S.Source.left c.args.source.now) (rw a.field-0-is asks);
      done = λ is session. absurd (workload_none words _ asks session);
      untouched = λ none. refl;
      source_later = same_later (g.S.Source.faults c.args.source.now);
      sink_later = c.run_workload.ensures.sink_later;
      shelf_later = c.run_workload.ensures.shelf_later;
      source_fault = λ is. absurd (c.run_workload.ensures.no_source_fault is);
      sink_fault = c.run_workload.ensures.sink_fault;
      shelf_fault = c.run_workload.ensures.shelf_fault words (g.S.Source.left c.args.source.now) (rw a.field-0-is asks);
    }

pub returns-in-Err-Usage : goal.returns-in-Err-Usage
returns-in-Err-Usage g c = record {
  run = inl (λ first at.
      run_refused g.H.R.Rack g.H.A.Area (choices_with (FnReturnsAt g.F.Fn c.args.chooser.now) (PolicyReturns g.P.Fn c.args.policy.now)) _ _ _ _ _ (on_shelf g.H.Shelf c.args.shelf.now) first at
      (c.read_words.ensures.usage (c.in-Err-Usage.is ∙ ap Err c.in-Err-Usage.field-0-is)) c.end_run.ensures.line);
  done = λ is session. absurd (usage_done (c.end_run.ensures.done is));
  untouched = λ none. refl;
  source_later = same_later (g.S.Source.faults c.args.source.now);
  sink_later = c.end_run.ensures.later;
  shelf_later = same_later (g.H.Shelf.faults c.args.shelf.now);
  source_fault = λ is. blameless _ Usage SourceFault tt (c.end_run.ensures.source is) (λ none. none);
  sink_fault = λ is. sink_last Usage _ _ tt (c.end_run.ensures.cause is);
  shelf_fault = λ is. blameless _ Usage ShelfFault tt (c.end_run.ensures.shelf is) (λ none. none);
}

pub returns : goal.returns
returns g c = record {
  run = inl (λ first at.
      run_unread g.H.R.Rack g.H.A.Area (choices_with (FnReturnsAt g.F.Fn c.args.chooser.now) (PolicyReturns g.P.Fn c.args.policy.now)) _ _ _ _ _ (on_shelf g.H.Shelf c.args.shelf.now) first at
      c.end_run-in-Err-NoMemory.ensures.line);
  done = λ is session. absurd (memory_done (c.end_run-in-Err-NoMemory.ensures.done is));
  untouched = λ none. refl;
  source_later = same_later (g.S.Source.faults c.args.source.now);
  sink_later = c.end_run-in-Err-NoMemory.ensures.later;
  shelf_later = same_later (g.H.Shelf.faults c.args.shelf.now);
  source_fault = λ is. blameless _ NoMemory SourceFault tt (c.end_run-in-Err-NoMemory.ensures.source is) (λ none. none);
  sink_fault = λ is. sink_last NoMemory _ _ tt (c.end_run-in-Err-NoMemory.ensures.cause is);
  shelf_fault = λ is. blameless _ NoMemory ShelfFault tt (c.end_run-in-Err-NoMemory.ensures.shelf is) (λ none. none);
}

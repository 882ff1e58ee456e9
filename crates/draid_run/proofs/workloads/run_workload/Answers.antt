use Rattle.std.proofs.Common.{◌∙◌, ap, inl, subst, Some}
use Rattle.std.specs.Fn.{FnReturnsAt}
use Rattle.draid_agent.specs.Policy.{PolicyReturns}
use Rattle.draid_session.specs.Choices.{choices_with}
use Rattle.draid_pool.specs.Shelves.{on_shelf}
use Rattle.draid_exits.specs.declared.status.Status.TheVariants.{NoMemory, ShelfFault, SourceFault}
use Rattle.draid_run.proofs.Ended.{run_unread}
use Rattle.draid_run.proofs.Exits.{blameless, same_later, sink_last}
use Rattle.draid_run.proofs.WorkloadEnds.{asks_session, still_none, workload_input, workload_is}
use Rattle.draid_run.specs.Script.{session_words}
use Rattle.draid_run.specs.Shelves.{DeviceFailed}
use Rattle.draid_run.proofs.workloads.run_workload.Goals as goal

pub returns-in-Err : goal.returns-in-Err
returns-in-Err g c = record {
  run = λ words given asks. inl (λ first at.
      run_unread g.H.R.Rack g.H.A.Area (choices_with (FnReturnsAt g.F.Fn c.args.chooser.now) (PolicyReturns g.P.Fn c.args.policy.now)) words _ given _ _ (on_shelf g.H.Shelf c.args.shelf.now) first at c.end_run.ensures.line);
  sink_later = c.end_run.ensures.later;
  shelf_later = same_later (g.H.Shelf.faults c.args.shelf.now);
  no_source_fault = λ is. blameless _ NoMemory SourceFault tt (c.end_run.ensures.source is) (λ none. none);
  sink_fault = λ is. sink_last NoMemory _ _ tt (c.end_run.ensures.cause is);
  shelf_fault = λ words given asks is. blameless _ NoMemory ShelfFault tt (c.end_run.ensures.shelf is) (λ none. none);
}

pub returns : goal.returns
returns g c = record {
  run = λ words given asks.
      workload_is g.H.R.Rack g.H.A.Area (choices_with (FnReturnsAt g.F.Fn c.args.chooser.now) (PolicyReturns g.P.Fn c.args.policy.now)) c.args.number c.run_session-ended.result words _ given _ _
      (on_shelf g.H.Shelf c.args.shelf.now) (on_shelf g.H.Shelf c.run_session-ended.new.shelf) c.deref.result.now c.new-replies.result.held c.run_session-ended.new.sink.held c.held.result.now
      asks (c.deref.ensures.value ∙ c.in-Ok.ensures) c.new-replies.ensures.held c.held.ensures (c.run_session-ended.ensures.run session_words asks_session) c.end_workload.ensures.prints;
  sink_later = c.end_workload.ensures.later;
  shelf_later = c.run_session-ended.ensures.shelf_later;
  no_source_fault = λ is. still_none (c.run_session-ended.ensures.source_fault (c.end_workload.ensures.source is));
  sink_fault = c.end_workload.ensures.cause;
  shelf_fault = λ words given asks is.
      subst (λ input. DeviceFailed input (on_shelf g.H.Shelf c.args.shelf.now) (on_shelf g.H.Shelf c.run_session-ended.new.shelf)) (ap Some (c.deref.ensures.value ∙ c.in-Ok.ensures) ∙ workload_input words given c.args.number asks)
      (c.run_session-ended.ensures.shelf_fault (c.end_workload.ensures.shelf is));
}

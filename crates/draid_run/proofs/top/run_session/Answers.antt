use Rattle.std.proofs.Common.{refl}
use Rattle.std.specs.Fn.{FnReturnsAt}
use Rattle.draid_agent.specs.Policy.{PolicyReturns}
use Rattle.draid_session.specs.Choices.{choices_with}
use Rattle.draid_session.specs.Session.{Untouched}
use Rattle.draid_pool.specs.Shelves.{on_shelf}
use Rattle.draid_run.proofs.Ended.{device_failed, run_served}
use Rattle.draid_run.proofs.Exits.{later_on, later_same, sink_since}
use Rattle.draid_run.proofs.Serving.{as_found}
use Rattle.draid_run.proofs.top.run_session.Goals as goal

pub returns : goal.returns
returns g c = record {
  run = λ words session first at.
      run_served g.H.R.Rack g.H.A.Area (choices_with (FnReturnsAt g.F.Fn c.args.chooser.now) (PolicyReturns g.P.Fn c.args.policy.now)) first words _ c.serve-ended.result _ _ _ _ (on_shelf g.H.Shelf c.args.shelf.now) (on_shelf g.H.Shelf c.serve-ended.new.shelf) (on_shelf g.H.Shelf c.give_back.new.shelf) c.serve-ended.new.pool
      session c.serve-ended.ensures.no_usage (c.serve-ended.ensures.served first at) c.end_run.ensures.line (c.give_back.ensures.leaves (on_shelf g.H.Shelf c.args.shelf.now)) (g.met.H.Shelf.steady c.args.shelf.now c.give_back.new.shelf);
  done = λ is. c.serve-ended.ensures.end (c.end_run.ensures.done is);
  source_later = c.serve-ended.ensures.source_later;
  sink_later = later_on _ _ _ c.serve-ended.ensures.sink_later c.end_run.ensures.later;
  shelf_later = later_same _ _ _ c.serve-ended.ensures.shelf_later c.give_back.ensures.faults;
  source_fault = λ is. c.serve-ended.ensures.source_cause (c.end_run.ensures.source is);
  sink_fault = λ is. sink_since c.serve-ended.result _ _ _ c.serve-ended.ensures.sink_later c.end_run.ensures.later c.serve-ended.ensures.sink_cause (c.end_run.ensures.cause is);
  shelf_fault = λ is.
      (let entry = on_shelf g.H.Shelf c.args.shelf.now in
      let served = c.serve-ended.ensures.served Untouched (as_found entry) in
      device_failed g.H.R.Rack g.H.A.Area (choices_with (FnReturnsAt g.F.Fn c.args.chooser.now) (PolicyReturns g.P.Fn c.args.policy.now)) Untouched c.serve-ended.result _ _ _ entry (on_shelf g.H.Shelf c.serve-ended.new.shelf) (on_shelf g.H.Shelf c.give_back.new.shelf) c.serve-ended.new.pool served
      (c.give_back.ensures.leaves entry served.last served.desk) (c.end_run.ensures.shelf is));
}

pub give_back-requires-clause-desk : goal.give_back-requires-clause-desk
give_back-requires-clause-desk g c κs within = (let served = c.serve-ended.ensures.served Untouched (as_found (on_shelf g.H.Shelf c.args.shelf.now)) in (served.last, served.desk.stands))

pub serve-ended-requires-clause-chooser : goal.serve-ended-requires-clause-chooser
serve-ended-requires-clause-chooser g c κs within = c.requires.chooser

pub serve-ended-requires-clause-closed : goal.serve-ended-requires-clause-closed
serve-ended-requires-clause-closed g c κs within = refl

pub serve-ended-requires-clause-policy : goal.serve-ended-requires-clause-policy
serve-ended-requires-clause-policy g c κs within = c.requires.policy

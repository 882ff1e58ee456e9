use Rattle.std.proofs.Common.{Ok, subst, sym}
use Rattle.std.specs.Fn.{FnReturnsAt}
use Rattle.draid_script.specs.Line.{FillObjects, command_in}
use Rattle.draid_script.specs.declared.line.Line.{Line}
use Rattle.draid_session.specs.Choices.{choices_by}
use Rattle.draid_works.specs.Replied.{CommandDone, ObjectsDone}
use Rattle.draid_works.proofs.Done.{free_as, read_as, sum_as}
use Rattle.draid_works.proofs.job.reply_on_objects.Goals as goal

pub returns-in-Fill-clause-done : goal.returns-in-Fill-clause-done
returns-in-Fill-clause-done g c =
    let e = c.fill_in_lane.ensures in
    let done : ObjectsDone g.R.Rack g.A.Area (choices_by (FnReturnsAt g.F.Fn c.args.chooser.now)) (FillObjects c.in-Fill.first c.in-Fill.count c.in-Fill.len c.in-Fill.seed) c.fill_in_lane.result c.args.lane.now c.fill_in_lane.new.lane = record { pass = e.pass; teaches = e.teaches; step = e.step } in
    subst (λ (l : Line). CommandDone g.R.Rack g.A.Area (choices_by (FnReturnsAt g.F.Fn c.args.chooser.now)) (command_in l) (Ok c.fill_in_lane.result) c.args.lane.now c.fill_in_lane.new.lane) (sym c.in-Fill.is) done

pub returns-in-Free-clause-done : goal.returns-in-Free-clause-done
returns-in-Free-clause-done g c =
    subst (λ (l : Line). CommandDone g.R.Rack g.A.Area (choices_by (FnReturnsAt g.F.Fn c.args.chooser.now)) (command_in l) (Ok c.reply_to_free.result) c.args.lane.now c.reply_to_free.new.lane) (sym c.in-Free.is)
    (free_as g.R.Rack g.A.Area c.args.lane.now c.reply_to_free.new.lane (choices_by (FnReturnsAt g.F.Fn c.args.chooser.now)) c.reply_to_free.result c.in-Free.object c.reply_to_free.ensures.done)

pub returns-in-Read-clause-done : goal.returns-in-Read-clause-done
returns-in-Read-clause-done g c =
    subst (λ (l : Line). CommandDone g.R.Rack g.A.Area (choices_by (FnReturnsAt g.F.Fn c.args.chooser.now)) (command_in l) (Ok c.reply_to_read.result) c.args.lane.now c.reply_to_read.new.lane) (sym c.in-Read.is)
    (read_as g.R.Rack g.A.Area c.args.lane.now c.reply_to_read.new.lane (choices_by (FnReturnsAt g.F.Fn c.args.chooser.now)) c.reply_to_read.result c.in-Read.object c.reply_to_read.ensures.done)

pub returns-in-Sum-clause-done : goal.returns-in-Sum-clause-done
returns-in-Sum-clause-done g c =
    subst (λ (l : Line). CommandDone g.R.Rack g.A.Area (choices_by (FnReturnsAt g.F.Fn c.args.chooser.now)) (command_in l) (Ok c.reply_to_sum.result) c.args.lane.now c.reply_to_sum.new.lane) (sym c.in-Sum.is)
    (sum_as g.R.Rack g.A.Area c.args.lane.now c.reply_to_sum.new.lane (choices_by (FnReturnsAt g.F.Fn c.args.chooser.now)) c.reply_to_sum.result c.in-Sum.first c.in-Sum.count c.reply_to_sum.ensures.done)

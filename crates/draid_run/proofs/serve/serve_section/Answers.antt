use Rattle.std.proofs.Common.{subst}
use Rattle.std.specs.Fn.{FnReturnsAt}
use Rattle.draid_session.specs.Choices.{choices_by}
use Rattle.draid_clashes.specs.Lanes.{lanes_in}
use Rattle.draid_run.specs.Sections.{RanIs}
use Rattle.draid_run.proofs.Within.{end_alone, end_ran}
use Rattle.draid_run.proofs.serve.serve_section.Goals as goal

pub returns-in-Ok-clause-line : goal.returns-in-Ok-clause-line
returns-in-Ok-clause-line g c past number text entry now x end desk =
    end_ran g.R.Rack g.A.Area (choices_by (FnReturnsAt g.F.Fn c.args.chooser.now)) past (lanes_in c.args.lanes.items) number text entry now c.args.pool.now x c.run_lanes.new.pool (g.K.Sink.held c.args.sink.now) (g.K.Sink.held c.print_ran.new.sink) end c.in-Ok.ran c.print_ran.result
    (c.in-Ok.ensures.did entry now x desk) (subst (λ ran. RanIs ran (g.K.Sink.held c.args.sink.now) (g.K.Sink.held c.print_ran.new.sink) c.print_ran.result) c.deref.ensures.value c.print_ran.ensures.prints)

pub returns-in-Err-clause-line : goal.returns-in-Err-clause-line
returns-in-Err-clause-line g c past number text entry now x end desk =
    end_alone g.R.Rack g.A.Area (choices_by (FnReturnsAt g.F.Fn c.args.chooser.now)) past (lanes_in c.args.lanes.items) number text entry now c.args.pool.now x c.run_lanes.new.pool (g.K.Sink.held c.args.sink.now) (g.K.Sink.held c.print_reply.new.sink) end c.in-Err.reply c.print_reply.result
    (c.in-Err.ensures.did entry now x desk) c.print_reply.ensures.prints

use Rattle.std.proofs.Common.{◌∙◌, Ok, ap, refl, subst, sym}
use Rattle.std.specs.Fn.{FnReturnsAt}
use Rattle.draid_script.specs.Grammar.{lane_of}
use Rattle.draid_script.specs.Line.{InLane, IsLaneLine, SilentLane, command_in, lane_command_in}
use Rattle.draid_session.specs.Choices.{choices_by}
use Rattle.draid_session.specs.Places.{Inside, Outside}
use Rattle.draid_clashes.specs.Lanes.{lanes_in}
use Rattle.draid_run.specs.Serve.{LineIs}
use Rattle.draid_run.proofs.Lining.{lanes_many}
use Rattle.draid_run.proofs.Within.{keeps_lanes, line_kept}
use Rattle.draid_run.proofs.serve.serve_inside.Goals as goal

pub returns-in-Ok-Nothing-clause-line : goal.returns-in-Ok-Nothing-clause-line
returns-in-Ok-Nothing-clause-line g c past entry now x desk =
    line_kept g.R.Rack g.A.Area (choices_by (FnReturnsAt g.F.Fn c.args.chooser.now)) past (lanes_in c.args.lanes.items) c.args.number c.args.text.now entry now c.args.pool.now x SilentLane (Inside (lanes_in c.args.lanes.items)) (g.K.Sink.held c.args.sink.now)
    (ap (λ n. lane_of n c.args.text.now) (lanes_many c.args.lanes.items ∙ sym c.args.lanes.ok.0 ∙ sym c.len.ensures) ∙ c.in-Ok-Nothing.ensures.value ∙ ap (λ l. Ok (lane_command_in l)) c.in-Ok-Nothing.field-0-is) (refl, refl, refl) (λ e. cc e) desk

pub returns-in-Ok-clause-line : goal.returns-in-Ok-clause-line
returns-in-Ok-clause-line g c past entry now x desk =
    line_kept g.R.Rack g.A.Area (choices_by (FnReturnsAt g.F.Fn c.args.chooser.now)) past (lanes_in c.args.lanes.items) c.args.number c.args.text.now entry now c.args.pool.now x (InLane c.in-Ok-Lane.lane (command_in c.in-Ok-Lane.line)) (Inside (lanes_in c.add_line.new.lanes.items)) (g.K.Sink.held c.args.sink.now)
    (ap (λ n. lane_of n c.args.text.now) (lanes_many c.args.lanes.items ∙ sym c.args.lanes.ok.0 ∙ sym c.len.ensures) ∙ c.in-Ok-Lane.ensures.value ∙ ap (λ l. Ok (lane_command_in l)) c.in-Ok-Lane.field-0-is) (refl, refl, ap Inside c.in-Ok.ensures.added) (λ e. cc e) desk

pub returns-in-Ok-clause-reading : goal.returns-in-Ok-clause-reading
returns-in-Ok-clause-reading g c =
    keeps_lanes c.args.lanes.items c.add_line.new.lanes.items c.len.result c.in-Ok-Lane.lane c.args.text.now (command_in c.in-Ok-Lane.line) (c.in-Ok-Lane.ensures.value ∙ ap (λ l. Ok (lane_command_in l)) c.in-Ok-Lane.field-0-is)
    (subst (λ l. IsLaneLine c.len.result (lane_command_in l)) c.in-Ok-Lane.field-0-is c.in-Ok-Lane.ensures.range).1 c.in-Ok.ensures.added c.requires.lanes

pub returns-in-Ok-serve_section-clause-line : goal.returns-in-Ok-serve_section-clause-line
returns-in-Ok-serve_section-clause-line g c past entry now x desk =
    subst (λ r. LineIs g.R.Rack g.A.Area (choices_by (FnReturnsAt g.F.Fn c.args.chooser.now)) past past (Inside (lanes_in c.args.lanes.items)) c.args.number c.args.text.now entry now c.args.pool.now x now c.serve_section.new.pool (g.K.Sink.held c.args.sink.now) (g.K.Sink.held c.serve_section.new.sink) Outside r) c.in-Ok-serve_section.is
    (c.serve_section.ensures.line past c.args.number c.args.text.now entry now x (ap (λ n. lane_of n c.args.text.now) (lanes_many c.args.lanes.items ∙ sym c.args.lanes.ok.0 ∙ sym c.len.ensures) ∙ c.in-Ok-End.ensures.value ∙ ap (λ l. Ok (lane_command_in l)) c.in-Ok-End.field-0-is) desk)

pub returns-in-Err-serve_section-clause-line : goal.returns-in-Err-serve_section-clause-line
returns-in-Err-serve_section-clause-line g c past entry now x desk =
    subst (λ r. LineIs g.R.Rack g.A.Area (choices_by (FnReturnsAt g.F.Fn c.args.chooser.now)) past past (Inside (lanes_in c.args.lanes.items)) c.args.number c.args.text.now entry now c.args.pool.now x now c.serve_section.new.pool (g.K.Sink.held c.args.sink.now) (g.K.Sink.held c.serve_section.new.sink) Outside r) c.in-Err-serve_section.is
    (c.serve_section.ensures.line past c.args.number c.args.text.now entry now x (ap (λ n. lane_of n c.args.text.now) (lanes_many c.args.lanes.items ∙ sym c.args.lanes.ok.0 ∙ sym c.len.ensures) ∙ c.in-Ok-End.ensures.value ∙ ap (λ l. Ok (lane_command_in l)) c.in-Ok-End.field-0-is) desk)

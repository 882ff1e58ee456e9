use Rattle.std.proofs.Common.{◌∙◌, Ok, ap, sym}
use Rattle.std.specs.Fn.{FnReturnsAt}
use Rattle.draid_agent.specs.Policy.{PolicyReturns}
use Rattle.draid_script.specs.Line.{command_in}
use Rattle.draid_session.specs.Choices.{choices_with}
use Rattle.draid_pool.specs.Shelves.{on_shelf}
use Rattle.draid_run.proofs.Within.{in_range, line_opened, opened_is}
use Rattle.draid_run.proofs.serve.serve_outside.Goals as goal

pub open_section-requires-clause-some : goal.open_section-requires-clause-some
open_section-requires-clause-some g c = (in_range (command_in c.in-Ok.line) c.in-Some.count (sym c.opened.ensures ∙ c.in-Some.is) c.in-Ok.ensures.range).0

pub open_section-requires-clause-few : goal.open_section-requires-clause-few
open_section-requires-clause-few g c = (in_range (command_in c.in-Ok.line) c.in-Some.count (sym c.opened.ensures ∙ c.in-Some.is) c.in-Ok.ensures.range).1

pub returns-in-Some-clause-line : goal.returns-in-Some-clause-line
returns-in-Some-clause-line g c entry x desk =
    line_opened g.H.R.Rack g.H.A.Area (choices_with (FnReturnsAt g.F.Fn c.args.chooser.now) (PolicyReturns g.P.Fn c.args.policy.now)) c.args.journal.now.entries c.args.number c.args.text.now entry (on_shelf g.H.Shelf c.args.shelf.now) c.args.pool.now x (g.K.Sink.held c.args.sink.now) c.in-Some.count
    (c.in-Ok.ensures.value ∙ ap Ok (opened_is (command_in c.in-Ok.line) c.in-Some.count (sym c.opened.ensures ∙ c.in-Some.is))) c.open_section.result c.open_section.ensures.opened c.open_section.ensures.refused desk

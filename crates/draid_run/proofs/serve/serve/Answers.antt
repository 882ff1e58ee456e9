use Rattle.std.proofs.Common.{◌∙◌, Ok, Err, ap, subst, sym, refl, ℕ}
use Rattle.std.specs.Fn.{FnReturnsAt}
use Rattle.draid_agent.specs.Policy.{PolicyReturns}
use Rattle.draid_session.specs.Choices.{choices_with}
use Rattle.draid_lines.specs.Lines.{Rest}
use Rattle.draid_session.specs.Session.{Untouched}
use Rattle.draid_pool.specs.Shelves.{on_shelf}
use Rattle.draid_session.specs.Places.{Outside}
use Rattle.draid_run.specs.Sections.{place_in}
use Rattle.draid_run.specs.Serve.{Served}
use Rattle.draid_run.proofs.Exits.{later_on, rose_from, same_later}
use Rattle.draid_run.proofs.Within.{goes_on}
use Rattle.draid_run.proofs.Serving.{as_found, end_no_sink, end_no_source, end_no_usage, few_given, first_number, line_by, line_no_done, line_no_source, line_no_usage, next_number, served_done, served_line, served_unread, serving_more, serving_start, text_by, text_no_done, text_no_sink, text_no_usage, too_many}
use Rattle.draid_run.proofs.serve.serve.Goals as goal

pub lines-init : goal.lines-init
lines-init g c =
    let given_of : Rest → ℕ = λ r. r.given in
    let given = ap given_of c.new-lines.ensures in
    record {
      serving = λ first at. serving_start _ _ _ _ _ _ c.new-lines.result c.args.pool.now c.new-journal.result.entries c.new-lines.ensures c.requires.closed c.new-journal.ensures first at;
      reading = tt;
      fault = ap (λ (r : Rest). r.fault) c.new-lines.ensures;
      given = first_number _ given;
      few = few_given _ given;
      source_later = same_later _;
      sink_later = same_later _;
      shelf_later = same_later _;
    }

pub returns-in-Ok-None : goal.returns-in-Ok-None
returns-in-Ok-None g c = record {
  served = λ first at.
      subst (λ status. Served g.H.R.Rack g.H.A.Area (choices_with (FnReturnsAt g.F.Fn c.args.chooser.now) (PolicyReturns g.P.Fn c.args.policy.now)) first status (g.S.Source.left c.args.source.now) (g.K.Sink.held c.args.sink.now) (g.K.Sink.held c.lines.sink) (on_shelf g.H.Shelf c.args.shelf.now) (on_shelf g.H.Shelf c.lines.shelf) c.lines.pool) (sym c.ended.ensures)
      (served_done _ _ _ _ first (place_in c.lines.section) _ _ _ _ _ _ _ _ _ c.lines.number (sym c.lines.invariant.given) (c.lines.invariant.serving first at) (text_by c.lines.lines c.next_text.new.lines _ _ _ _ c.in-Ok-None.field-0-is c.in-Ok-None.ensures.text));
  end = λ is. c.next_text.ensures.end (c.in-Ok-None.is ∙ ap Ok c.in-Ok-None.field-0-is);
  source_later = later_on _ _ _ c.lines.invariant.source_later c.next_text.ensures.later;
  sink_later = c.lines.invariant.sink_later;
  shelf_later = c.lines.invariant.shelf_later;
  source_cause = λ is. absurd (end_no_source c.lines.number (place_in c.lines.section) (sym c.ended.ensures ∙ is));
  sink_cause = λ is. absurd (end_no_sink c.lines.number (place_in c.lines.section) (sym c.ended.ensures ∙ is));
  no_usage = λ is. end_no_usage c.lines.number (place_in c.lines.section) (sym c.ended.ensures ∙ is);
}

pub returns-in-Err : goal.returns-in-Err
returns-in-Err g c = record {
  served = λ first at.
      served_unread g.H.R.Rack g.H.A.Area (choices_with (FnReturnsAt g.F.Fn c.args.chooser.now) (PolicyReturns g.P.Fn c.args.policy.now)) (on_shelf g.H.Shelf c.args.shelf.now) first (place_in c.lines.section) c.lines.journal.entries _ _ _ (g.S.Source.left c.lines.source) (g.S.Source.left c.next_text.new.source) _ _ c.lines.lines c.next_text.new.lines c.in-Err.status (c.lines.invariant.serving first at) c.in-Err.ensures.text;
  end = λ is. absurd (text_no_done c.lines.lines c.next_text.new.lines (g.S.Source.left c.lines.source) (g.S.Source.left c.next_text.new.source) c.in-Err.status c.in-Err.ensures.text is);
  source_later = later_on _ _ _ c.lines.invariant.source_later c.next_text.ensures.later;
  sink_later = c.lines.invariant.sink_later;
  shelf_later = c.lines.invariant.shelf_later;
  source_cause = λ is. rose_from _ _ _ c.lines.invariant.source_later (c.next_text.ensures.cause (c.in-Err.is ∙ ap Err is));
  sink_cause = λ is. absurd (text_no_sink c.lines.lines c.next_text.new.lines (g.S.Source.left c.lines.source) (g.S.Source.left c.next_text.new.source) c.in-Err.status c.in-Err.ensures.text is);
  no_usage = text_no_usage c.lines.lines c.next_text.new.lines (g.S.Source.left c.lines.source) (g.S.Source.left c.next_text.new.source) c.in-Err.status c.in-Err.ensures.text;
}

pub returns-in-Err-serve_line : goal.returns-in-Err-serve_line
returns-in-Err-serve_line g c =
    let entry = (on_shelf g.H.Shelf c.args.shelf.now) in
    let was = c.lines.invariant.serving Untouched (as_found entry) in
    let line = c.in-Err-serve_line.ensures.line entry was.reached was.desk in
    record {
      served = λ first at.
          (let serving = c.lines.invariant.serving first at in
          let text = text_by c.lines.lines c.next_text.new.lines _ _ _ _ c.in-Ok-Some.field-0-is c.in-Ok-Some.ensures.text in
          served_line _ _ _ _ first (place_in c.lines.section) _ _ _ _ _ _ _ _ _ _ text.3 serving c.lines.invariant.shelf_later c.serve_line.new.journal.entries _ _ (g.met.H.Shelf.steady c.args.shelf.now c.serve_line.new.shelf) _ Outside _
          (line_by g.H.R.Rack g.H.A.Area (choices_with (FnReturnsAt g.F.Fn c.args.chooser.now) (PolicyReturns g.P.Fn c.args.policy.now)) (on_shelf g.H.Shelf c.args.shelf.now) c.lines.journal.entries c.serve_line.new.journal.entries (place_in c.lines.section) c.lines.number _ _ c.in-Ok-Some.text.items (on_shelf g.H.Shelf c.lines.shelf) c.lines.pool serving.reached (on_shelf g.H.Shelf c.serve_line.new.shelf) c.serve_line.new.pool (g.K.Sink.held c.lines.sink) (g.K.Sink.held c.serve_line.new.sink) Outside (Err c.in-Err-serve_line.status) (sym c.lines.invariant.given) c.deref.ensures.value (c.in-Err-serve_line.ensures.line (on_shelf g.H.Shelf c.args.shelf.now) serving.reached serving.desk)));
      source_later = later_on _ _ _ c.lines.invariant.source_later c.next_text.ensures.later;
      sink_later = later_on _ _ _ c.lines.invariant.sink_later c.serve_line.ensures.later;
      shelf_later = later_on _ _ _ c.lines.invariant.shelf_later c.serve_line.ensures.shelf_later;
      end = λ is. absurd (line_no_done g.H.R.Rack g.H.A.Area (choices_with (FnReturnsAt g.F.Fn c.args.chooser.now) (PolicyReturns g.P.Fn c.args.policy.now)) entry c.lines.journal.entries c.serve_line.new.journal.entries (place_in c.lines.section) _ _ _ _ was.reached _ _ _ _ Outside c.in-Err-serve_line.status line is);
      source_cause = λ is. absurd (line_no_source g.H.R.Rack g.H.A.Area (choices_with (FnReturnsAt g.F.Fn c.args.chooser.now) (PolicyReturns g.P.Fn c.args.policy.now)) entry c.lines.journal.entries c.serve_line.new.journal.entries (place_in c.lines.section) _ _ _ _ was.reached _ _ _ _ Outside c.in-Err-serve_line.status line is);
      sink_cause = λ is. rose_from _ _ _ c.lines.invariant.sink_later (c.serve_line.ensures.cause (c.in-Err-serve_line.is ∙ ap Err is));
      no_usage = line_no_usage g.H.R.Rack g.H.A.Area (choices_with (FnReturnsAt g.F.Fn c.args.chooser.now) (PolicyReturns g.P.Fn c.args.policy.now)) entry c.lines.journal.entries c.serve_line.new.journal.entries (place_in c.lines.section) _ _ _ _ was.reached _ _ _ _ Outside c.in-Err-serve_line.status line;
    }

pub lines-preserved : goal.lines-preserved
lines-preserved g c =
    let text = text_by c.lines.lines c.next_text.new.lines _ _ _ _ c.in-Ok-Some.field-0-is c.in-Ok-Some.ensures.text in
    let one = text.0 in
    let given = c.lines.invariant.given in
    record {
      serving = λ first at. (let serving = c.lines.invariant.serving first at in rw one (serving_more _ _ _ _ first (place_in c.lines.section) c.lines.journal.entries c.serve_line.new.journal.entries _ _ _ _ _ _ _ _ _ _ _ _ (place_in c.in-Ok.section) serving text.3
          (line_by g.H.R.Rack g.H.A.Area (choices_with (FnReturnsAt g.F.Fn c.args.chooser.now) (PolicyReturns g.P.Fn c.args.policy.now)) (on_shelf g.H.Shelf c.args.shelf.now) c.lines.journal.entries c.serve_line.new.journal.entries (place_in c.lines.section) c.lines.number c.lines.number _ c.in-Ok-Some.text.items (on_shelf g.H.Shelf c.lines.shelf) c.lines.pool serving.reached (on_shelf g.H.Shelf c.serve_line.new.shelf) c.serve_line.new.pool (g.K.Sink.held c.lines.sink) (g.K.Sink.held c.serve_line.new.sink) (place_in c.in-Ok.section) (Ok tt) refl c.deref.ensures.value (c.in-Ok.ensures.line (on_shelf g.H.Shelf c.args.shelf.now) serving.reached serving.desk)) (g.met.H.Shelf.steady c.args.shelf.now c.serve_line.new.shelf) (goes_on c.in-Ok.section)));
      reading = c.in-Ok.ensures.reading;
      fault = text.2;
      given = next_number _ _ _ one given;
      few = text.1;
      source_later = later_on _ _ _ c.lines.invariant.source_later c.next_text.ensures.later;
      sink_later = later_on _ _ _ c.lines.invariant.sink_later c.serve_line.ensures.later;
      shelf_later = later_on _ _ _ c.lines.invariant.shelf_later c.serve_line.ensures.shelf_later;
    }

pub next_text-requires : goal.next_text-requires
next_text-requires g c = c.lines.invariant.fault

pub serve_line-requires-clause-chooser : goal.serve_line-requires-clause-chooser
serve_line-requires-clause-chooser g c κs within = c.requires.chooser

pub serve_line-requires-clause-desk : goal.serve_line-requires-clause-desk
serve_line-requires-clause-desk g c κs within = (let serving = c.lines.invariant.serving Untouched (as_found (on_shelf g.H.Shelf c.args.shelf.now)) in (serving.reached, serving.desk.stands))

pub unreachable-requires : goal.unreachable-requires
unreachable-requires g c = too_many c.lines.number c.lines.lines.given c.lines-test.false c.lines.invariant.given c.lines.invariant.few

pub serve_line-requires-clause-policy : goal.serve_line-requires-clause-policy
serve_line-requires-clause-policy g c κs within = c.requires.policy

pub serve_line-requires-clause-reading : goal.serve_line-requires-clause-reading
serve_line-requires-clause-reading g c κs within = c.lines.invariant.reading

use Rattle.std.proofs.Common.{rules}
use Rattle.draid_area.proofs.Spans.{left_inside, left_outside}
use Rattle.draid_area.proofs.cells.leave_span.Goals as goal

pub returns-clause-same : goal.returns-clause-same
returns-clause-same c = λ i out. left_outside c.args.rule c.args.flushed.now.items c.args.bytes.now c.leave_range.new.flushed.items c.args.span.start c.args.span.len i c.requires.inside c.requires.long (search rules) out

pub returns-clause-here : goal.returns-clause-here
returns-clause-here c = λ i here. left_inside c.args.rule c.args.flushed.now.items c.args.bytes.now c.leave_range.new.flushed.items c.args.span.start c.args.span.len i c.requires.inside c.requires.long (search rules) here

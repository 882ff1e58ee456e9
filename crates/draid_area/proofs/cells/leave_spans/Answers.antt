use Rattle.std.proofs.Common.{◌∙◌}
use Rattle.draid_area.specs.Cells.{byte_at}
use Rattle.draid_area.specs.declared.cells.Span.{Span}
use Rattle.draid_area.proofs.Spans.{left_more, other_left}
use Rattle.draid_area.proofs.cells.leave_spans.Goals as goal

pub loop-k-preserved : goal.loop-k-preserved
loop-k-preserved c =
    let none : Span = record { start = 0; len = 0 } in
    let was = c.args.flushed.now.items in
    let mid = c.loop-k.flushed.items in
    let left = c.leave_span.new.flushed.items in
    let e = c.leave_span.ensures in
    record {
      long = e.long ∙ c.loop-k.invariant.long;
      done = λ i there. left_more c.args.rule c.args.spans.now c.loop-k.k i (byte_at was i) (byte_at c.args.bytes.now i) (byte_at mid i) (byte_at left i) none c.loop-k-test.true
          (c.loop-k.invariant.done i) (c.loop-k.invariant.other i) (e.here i) (e.same i) there;
      other = λ i out. other_left c.args.spans.now c.loop-k.k i (byte_at was i) (byte_at mid i) (byte_at left i) none c.loop-k-test.true (c.loop-k.invariant.other i) (e.same i) out;
    }

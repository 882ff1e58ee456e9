use Rattle.std.proofs.Common.{rules, ◌∙◌, ◌≡◌, ◌≤◌, ◌+◌, length, slice_index_or, slice_range}
use Rattle.std.specs.List.{splice}
use Rattle.draid_area.specs.declared.cells.Span.{Span}
use Rattle.draid_area.proofs.Spans.{done_more, length_kept, other_more}
use Rattle.draid_area.proofs.cells.keep_spans.Goals as goal

pub loop-k-preserved : goal.loop-k-preserved
loop-k-preserved c =
    let bytes = c.args.bytes.now in
    let was = c.loop-k.flushed.items in
    let now = c.overwrite.new.cells.items in
    let none : Span = record { start = 0; len = 0 } in
    let span = slice_index_or c.args.spans.now c.loop-k.k none in
    let long : length bytes ≤ length was = search rules in
    let inside : span.start + span.len ≤ length bytes = search rules in
    let written : now ≡ splice was span.start (span.start + span.len) (slice_range bytes span.start (span.start + span.len)) = search rules in
    record {
      long = length_kept bytes was now span.start span.len inside long written ∙ c.loop-k.invariant.long;
      done = λ i there. done_more bytes was now c.args.spans.now c.loop-k.k i none c.loop-k-test.true inside long written (c.loop-k.invariant.done i) there;
      other = λ i out. other_more bytes was now span.start span.len i inside long written (c.loop-k.invariant.other i out);
    }

use Rattle.std.proofs.Common.{◌<◌, ◌||◌, ◌∙◌, ap, sym, get_or, length, take}
use Rattle.draid_machine.specs.Names.{has_segment, segment_eq}
use Rattle.draid_world.proofs.SegmentLists.{no_segment, or_more, or_turned, segments_more}
use Rattle.draid_world.proofs.sets.put_all.Goals as goal

pub loop-segment-preserved : goal.loop-segment-preserved
loop-segment-preserved c = λ s.
    let all = c.args.segments.now in
    let at = c.loop-segment.segment-index in
    let less : at < length all = c.loop-segment-test.true in
    let here = segment_eq (get_or all at no_segment) s in
    c.in_ok-add_segment.ensures s
    ∙ or_turned here (has_segment c.loop-segment.set.keys s)
    ∙ ap (λ b. b || here) (c.loop-segment.invariant s)
    ∙ or_more (has_segment c.args.set.now.keys s) (has_segment (take at all) s) here
    ∙ ap (λ b. has_segment c.args.set.now.keys s || b) (sym (segments_more all at no_segment s less))

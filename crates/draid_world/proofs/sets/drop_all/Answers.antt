use Rattle.std.proofs.Common.{◌<◌, ◌&&◌, not, ◌∙◌, ap, sym, get_or, length, take}
use Rattle.draid_machine.specs.Names.{has_segment, segment_eq}
use Rattle.draid_world.proofs.SegmentLists.{and_more, no_segment, segments_more}
use Rattle.draid_world.proofs.sets.drop_all.Goals as goal

pub loop-segment-preserved : goal.loop-segment-preserved
loop-segment-preserved c = λ s.
    let all = c.args.segments.now in
    let at = c.loop-segment.segment-index in
    let less : at < length all = c.loop-segment-test.true in
    let here = segment_eq (get_or all at no_segment) s in
    c.drop.ensures s
    ∙ ap (λ b. b && not here) (c.loop-segment.invariant s)
    ∙ and_more (has_segment c.args.set.now.keys s) (has_segment (take at all) s) here
    ∙ ap (λ b. has_segment c.args.set.now.keys s && not b) (sym (segments_more all at no_segment s less))

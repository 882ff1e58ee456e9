use Rattle.draid_world.proofs.SegmentLists.{or_false}
use Rattle.std.proofs.Common.{◌∙◌, ◌&&◌, ◌||◌, ap, sym}
use Rattle.draid_machine.specs.After.{stays}
use Rattle.draid_machine.specs.Names.{has_segment}
use Rattle.draid_world.specs.World.{site_layout, state_of}
use Rattle.draid_world.proofs.Joining.{next_joined}
use Rattle.draid_steps.proofs.commits.staying_of.Goals as goal

pub loop-segment-preserved : goal.loop-segment-preserved
loop-segment-preserved c = λ s.
    next_joined c.loop-segment.segment-iterator c.next.new.self c.in-Some.segment.now s (stays (site_layout c.args.site.now) c.args.group (state_of c.args.world.now) s)
    (has_segment c.loop-segment.staying.keys s) (has_segment c.add_staying.new.set.keys s) c.in-Some.ensures.steps (c.in_ok-add_staying.ensures s)
    ∙ c.loop-segment.invariant s

pub loop-segment-init : goal.loop-segment-init
loop-segment-init c = λ s.
    let test = stays (site_layout c.args.site.now) c.args.group (state_of c.args.world.now) s in
    ap (λ ys. has_segment ys s || (has_segment c.into_iter-segment-iterator.result s && test)) c.new-staying.ensures.empty
    ∙ ap (λ ys. has_segment ys s && test) (c.into_iter-segment-iterator.ensures.into_iter_gives ∙ c.iter-segment-items.ensures.rest)

pub returns : goal.returns
returns c = λ s.
    let test = stays (site_layout c.args.site.now) c.args.group (state_of c.args.world.now) s in
    let cur = has_segment c.loop-segment.staying.keys s in
    sym (ap (λ ys. cur || (has_segment ys s && test)) c.in-None.ensures.steps.0 ∙ or_false cur) ∙ c.loop-segment.invariant s

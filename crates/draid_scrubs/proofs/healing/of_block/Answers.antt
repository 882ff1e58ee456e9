use Rattle.std.proofs.Common.{◌∙◌, ◌&&◌, ◌||◌, ap, sym}
use Rattle.draid_machine.specs.declared.names.Segment.{Segment}
use Rattle.draid_machine.specs.Names.{has_segment, key_eq}
use Rattle.draid_scrubs.proofs.Stays.{stay_all, stay_more, stay_skip}
use Rattle.draid_scrubs.proofs.healing.of_block.Goals as goal

pub loop-segment-init : goal.loop-segment-init
loop-segment-init c = λ s.
    let test = key_eq c.args.key s.key in
    ap (λ ys. has_segment ys s || (has_segment c.into_iter-segment-iterator.result s && test)) c.new-out.ensures.items
    ∙ ap (λ ys. has_segment ys s && test) c.into_iter-segment-iterator.ensures.into_iter_gives.0

pub loop-segment-preserved : goal.loop-segment-preserved
loop-segment-preserved c = λ s.
    stay_skip (λ (x : Segment). key_eq c.args.key x.key) c.loop-segment.out.items c.loop-segment.segment-iterator c.next.new.self c.in-Some.segment.now s c.in-Some.ensures.steps
    (sym c.is_of.ensures ∙ c.if-is_of.false)
    ∙ c.loop-segment.invariant s

pub returns : goal.returns
returns c = λ s.
    stay_all (has_segment c.loop-segment.out.items s) c.loop-segment.segment-iterator s (key_eq c.args.key s.key) _ c.in-None.ensures.steps.0 (c.loop-segment.invariant s)

pub loop-segment-preserved-in-Continue-1 : goal.loop-segment-preserved-in-Continue-1
loop-segment-preserved-in-Continue-1 c = λ s.
    stay_more (λ (x : Segment). key_eq c.args.key x.key) c.loop-segment.out.items c.push.new.self.items c.loop-segment.segment-iterator c.next.new.self c.in-Some.segment.now s c.in-Some.ensures.steps
    c.in_ok-push.ensures.items (sym c.is_of.ensures ∙ c.if-is_of.true)
    ∙ c.loop-segment.invariant s

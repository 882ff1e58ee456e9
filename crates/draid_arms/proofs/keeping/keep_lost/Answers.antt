use Rattle.draid_machine.specs.Names.{has_segment}
use Rattle.std.proofs.Common.{◌∙◌, Some, ◌&&◌, ap, if◌then◌else◌, sym}
use Rattle.draid_world.specs.World.{core_of, kept_in, names_at, site_layout}
use Rattle.draid_arms.specs.Moves.{is_lost}
use Rattle.draid_arms.proofs.Lost.{next_lost}
use Rattle.draid_arms.proofs.keeping.keep_lost.Goals as goal

pub loop-segment-preserved : goal.loop-segment-preserved
loop-segment-preserved c = λ s.
    next_lost c.loop-segment.segment-iterator c.next.new.self c.in-Some.segment.now s (is_lost (site_layout c.args.site.now) (names_at c.args.before.now) (core_of c.args.tables.now) s) (Some c.args.group)
    (kept_in c.loop-segment.kept.entries s) (kept_in c.keep_if_lost.new.kept.entries s) c.in-Some.ensures.steps (c.in_ok-keep_if_lost.ensures s)
    ∙ c.loop-segment.invariant s

pub loop-segment-init : goal.loop-segment-init
loop-segment-init c = λ s.
    let lost = is_lost (site_layout c.args.site.now) (names_at c.args.before.now) (core_of c.args.tables.now) s in
    ap (λ ys. if has_segment ys s && lost then Some c.args.group else kept_in c.args.kept.now.entries s) (c.into_iter-segment-iterator.ensures.into_iter_gives ∙ c.iter-segment-items.ensures.rest)

pub returns : goal.returns
returns c = λ s.
    let lost = is_lost (site_layout c.args.site.now) (names_at c.args.before.now) (core_of c.args.tables.now) s in
    sym (ap (λ ys. if has_segment ys s && lost then Some c.args.group else kept_in c.loop-segment.kept.entries s) c.in-None.ensures.steps.0) ∙ c.loop-segment.invariant s

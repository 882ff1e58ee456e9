use Rattle.draid_world.proofs.SegmentLists.{or_false}
use Rattle.std.proofs.lemmas.List.{drop_all}
use Rattle.std.proofs.Common.{◌∙◌, ◌&&◌, ◌||◌, ap, sym, refl}
use Rattle.draid_machine.specs.Claims.{claims}
use Rattle.draid_machine.specs.Names.{has_segment}
use Rattle.draid_world.specs.World.{core_of, site_layout}
use Rattle.draid_images.proofs.Claiming.{next_of_list}
use Rattle.draid_images.proofs.openings.add_all_claimed.Goals as goal

pub loop-segment-preserved : goal.loop-segment-preserved
loop-segment-preserved c = λ s.
    next_of_list c.args.segments.now c.loop-segment.segment-index _ s (claims (site_layout c.args.site.now) (core_of c.args.tables.now) s) (has_segment c.loop-segment.set.keys s) (has_segment c.add_claimed.new.set.keys s)
    c.loop-segment-test.true (c.in_ok-add_claimed.ensures s)
    ∙ c.loop-segment.invariant s

pub loop-segment-init : goal.loop-segment-init
loop-segment-init c = λ s. refl

pub returns : goal.returns
returns c = λ s.
    let cur = has_segment c.loop-segment.set.keys s in
    sym (ap (λ xs. cur || (has_segment xs s && claims (site_layout c.args.site.now) (core_of c.args.tables.now) s)) (drop_all c.loop-segment.segment-index c.args.segments.now c.loop-segment-test.false) ∙ or_false cur)
    ∙ c.loop-segment.invariant s

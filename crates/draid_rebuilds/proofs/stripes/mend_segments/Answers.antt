use Rattle.std.proofs.Common.{◌≡◌, ◌&&◌, ◌||◌, not, ◌∙◌, ap, if◌then◌else◌}
use Rattle.draid_machine.specs.declared.names.Segment.{Segment}
use Rattle.draid_machine.specs.After.{is_mended, is_source_aside}
use Rattle.draid_machine.specs.Arms.{fails}
use Rattle.draid_machine.specs.Names.{has_segment}
use Rattle.draid_world.specs.World.{loan_of, pass_of, site_layout, state_of}
use Rattle.draid_rebuilds.proofs.Landed.{both_bits, replaced}
use Rattle.draid_rebuilds.proofs.stripes.mend_segments.Goals as goal

pub returns : goal.returns
returns c =
    let l = site_layout c.args.site.now in
    let w = state_of c.args.world.now in
    let n = loan_of c.args.loan.now in
    let all = c.in_ok-all.all.items in
    let written = c.in_ok-written.written.items in
    let doubts = c.in_ok-doubts.doubts.items in
    let mends : Segment → _ = λ s. is_mended l w.core (pass_of c.args.pass.now) n c.args.held s in
    let lands : Segment → _ = λ s. not (fails l w.core c.args.failed.now s.arm n.stripe) in
    let wrote : (s : Segment) → has_segment written s ≡ (mends s && lands s) =
    λ s. c.in_ok-written.ensures s ∙ ap (λ ys. has_segment ys s && lands s) c.deref.ensures.value ∙ ap (λ b. b && lands s) (c.in_ok-all.ensures s) in
    let doubted : (s : Segment) → has_segment doubts s ≡ (mends s && (is_source_aside l w n s && lands s)) =
    λ s. c.in_ok-doubts.ensures s ∙ ap (λ ys. has_segment ys s && is_source_aside l w n s) c.deref-2.ensures.value ∙ ap (λ b. b && is_source_aside l w n s) (wrote s)
    ∙ both_bits (mends s) (lands s) (is_source_aside l w n s) in
    let present : (s : Segment) → has_segment c.put_all.new.set.keys s ≡ (if mends s then lands s else w.present s) =
    λ s. replaced (w.present s) (has_segment c.drop_all.new.set.keys s) _ (has_segment all s) (has_segment written s) (mends s) (lands s) (c.in_ok-all.ensures s) (wrote s)
    (c.drop_all.ensures s ∙ ap (λ ys. w.present s && not (has_segment ys s)) c.deref-3.ensures.value)
    (c.in_ok-put_all.ensures s ∙ ap (λ ys. has_segment c.drop_all.new.set.keys s || has_segment ys s) c.deref-4.ensures.value) in
    let aside : (s : Segment) → has_segment c.put_all-2.new.set.keys s ≡ (if mends s then is_source_aside l w n s && lands s else w.aside s) =
    λ s. replaced (w.aside s) (has_segment c.drop_all-2.new.set.keys s) _ (has_segment all s) (has_segment doubts s) (mends s) (is_source_aside l w n s && lands s) (c.in_ok-all.ensures s) (doubted s)
    (c.drop_all-2.ensures s ∙ ap (λ ys. w.aside s && not (has_segment ys s)) c.deref-5.ensures.value)
    (c.in_ok-put_all-2.ensures s ∙ ap (λ ys. has_segment c.drop_all-2.new.set.keys s || has_segment ys s) c.deref-6.ensures.value) in
    λ i. record w { present = λ s. present s i; aside = λ s. aside s i }

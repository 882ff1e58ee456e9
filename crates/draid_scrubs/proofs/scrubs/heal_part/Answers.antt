use Rattle.std.proofs.Common.{◌≡◌, ◌&&◌, ◌||◌, ◌∙◌, ap}
use Rattle.draid_machine.specs.declared.names.Segment.{Segment}
use Rattle.draid_machine.specs.After.{has_healed, has_landed, is_written, was_written}
use Rattle.draid_machine.specs.Names.{has_segment}
use Rattle.draid_world.specs.World.{loan_of, site_layout, state_of}
use Rattle.draid_scrubs.proofs.scrubs.heal_part.Goals as goal

pub returns : goal.returns
returns c =
    let l = site_layout c.args.site.now in
    let w = state_of c.args.world.now in
    let n = loan_of c.args.loan.now in
    let h = c.args.held in
    let patched = c.args.patched.now in
    let lands : Segment → _ = λ s. has_landed patched s.column s.arm s.row in
    let wrote : Segment → _ = λ s. was_written patched s.column s.arm s.row in
    let aside : (s : Segment) → has_segment c.put_all.new.set.keys s ≡ (w.aside s || is_written l w.core n h patched s) =
    λ s. c.in_ok-put_all.ensures s ∙ ap (λ ys. w.aside s || has_segment ys s) c.deref-3.ensures.value
    ∙ ap (λ b. w.aside s || b) (c.in_ok-doubts.ensures s ∙ ap (λ ys. has_segment ys s && wrote s) c.deref-2.ensures.value ∙ ap (λ b. b && wrote s) (c.in_ok-all.ensures s)) in
    let present : (s : Segment) → has_segment c.put_all-2.new.set.keys s ≡ (w.present s || has_healed l w.core n h patched s) =
    λ s. c.in_ok-put_all-2.ensures s ∙ ap (λ ys. w.present s || has_segment ys s) c.deref-4.ensures.value
    ∙ ap (λ b. w.present s || b) (c.in_ok-good.ensures s ∙ ap (λ ys. has_segment ys s && lands s) c.deref.ensures.value ∙ ap (λ b. b && lands s) (c.in_ok-all.ensures s)) in
    λ i. record w { present = λ s. present s i; aside = λ s. aside s i }

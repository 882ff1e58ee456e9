use Rattle.std.proofs.Common.{◌≡◌, ◌&&◌, ◌||◌, not, true, ◌∙◌, ap}
use Rattle.draid_machine.specs.declared.names.Segment.{Segment}
use Rattle.draid_machine.specs.After.{aside_after, has_healed, has_landed}
use Rattle.draid_machine.specs.Arms.{logged}
use Rattle.draid_machine.specs.Claims.{is_on}
use Rattle.draid_machine.specs.Names.{has_segment, key_eq}
use Rattle.draid_world.specs.World.{loan_of, site_layout, state_of}
use Rattle.draid_scrubs.specs.Healing.{is_dubious}
use Rattle.draid_scrubs.proofs.Healed.{whole_set}
use Rattle.draid_scrubs.proofs.scrubs.heal_whole.Goals as goal

pub returns : goal.returns
returns c =
    let l = site_layout c.args.site.now in
    let w = state_of c.args.world.now in
    let n = loan_of c.args.loan.now in
    let h = c.args.held in
    let patched = c.args.patched.now in
    let all = c.in_ok-all.all.items in
    let lands : Segment → _ = λ s. has_landed patched s.column s.arm s.row in
    let present : (s : Segment) → has_segment c.put_all-3.new.set.keys s ≡ (w.present s || has_healed l w.core n h patched s) =
    λ s. c.in_ok-put_all-3.ensures s ∙ ap (λ ys. w.present s || has_segment ys s) c.deref-6.ensures.value
    ∙ ap (λ b. w.present s || b) (c.in_ok-good.ensures s ∙ ap (λ ys. has_segment ys s && lands s) c.deref.ensures.value ∙ ap (λ b. b && lands s) (c.in_ok-all.ensures s)) in
    let aside : (s : Segment) → has_segment c.put_all-2.new.set.keys s ≡ aside_after l w n h patched true s =
    λ s. whole_set (w.aside s) (key_eq n.key s.key) (is_on l w.core.order s h) (w.present s) (logged (w.core.arm s.arm) h.birth) (lands s)
    (has_segment c.in_ok-present.present.items s) (has_segment all s) (has_segment c.in_ok-doubts.doubts.items s) (has_segment c.put_all.new.set.keys s) (has_segment c.drop_all.new.set.keys s) _
    (c.in_ok-present.ensures s) (c.in_ok-all.ensures s) (c.in_ok-doubts.ensures s ∙ ap (λ ys. has_segment ys s && is_dubious w.core h.birth patched s) c.deref-2.ensures.value)
    (c.in_ok-put_all.ensures s ∙ ap (λ ys. w.aside s || has_segment ys s) c.deref-3.ensures.value)
    (c.drop_all.ensures s ∙ ap (λ ys. has_segment c.put_all.new.set.keys s && not (has_segment ys s)) c.deref-4.ensures.value)
    (c.in_ok-put_all-2.ensures s ∙ ap (λ ys. has_segment c.drop_all.new.set.keys s || has_segment ys s) c.deref-5.ensures.value) in
    λ i. record w { present = λ s. present s i; aside = λ s. aside s i }

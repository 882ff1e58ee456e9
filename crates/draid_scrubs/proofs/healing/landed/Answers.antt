use Rattle.draid_machine.specs.Names.{has_segment}
use Rattle.std.proofs.Common.{◌+◌, ◌∙◌, sym, refl, subst, get_or, Vec, Global, ap}
use Rattle.draid_machine.specs.declared.names.Segment.{Segment}
use Rattle.draid_machine.specs.After.{has_landed}
use Rattle.draid_world.proofs.Picks.{ArePicked, picked_all, picked_no, picked_yes}
use Rattle.draid_world.proofs.SegmentLists.{no_segment}
use Rattle.draid_scrubs.proofs.healing.landed.Goals as goal
use Rattle.draid_scrubs.proofs.healing.landed.Goals.{then-has_landed+in_ok-push, else-has_landed}

pub loop-segment-preserved : goal.loop-segment-preserved
loop-segment-preserved c =
    let all = c.args.all.now in
    let at = c.loop-segment.segment-index in
    let less = c.loop-segment-test.true in
    let test : Segment → _ = λ s. has_landed c.args.patched.now s.column s.arm s.row in
    elim c.if-has_landed.branch [
      | then-has_landed+in_ok-push w ↦ subst (λ (v : Vec Segment Global). ArePicked test all (at + 1) v.items) (sym w.out-is)
          (picked_yes test all c.loop-segment.out.items w.push.new.self.items at no_segment (get_or all at no_segment) less refl c.loop-segment.invariant w.in_ok-push.ensures.items (sym c.has_landed.ensures ∙ w.if-has_landed.true))
      | else-has_landed w ↦ subst (λ (v : Vec Segment Global). ArePicked test all (at + 1) v.items) (sym w.out-is)
          (picked_no test all c.loop-segment.out.items at no_segment (get_or all at no_segment) less refl c.loop-segment.invariant (sym c.has_landed.ensures ∙ w.if-has_landed.false))
    ]

pub returns : goal.returns
returns c =
    let test : Segment → _ = λ s. has_landed c.args.patched.now s.column s.arm s.row in
    picked_all test c.args.all.now c.loop-segment.out.items c.loop-segment.segment-index c.loop-segment-test.false c.loop-segment.invariant

pub loop-segment-init : goal.loop-segment-init
loop-segment-init c = λ s. ap (λ ys. has_segment ys s) c.new-out.ensures.items

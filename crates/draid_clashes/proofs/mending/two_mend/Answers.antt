use Rattle.std.proofs.Common.{◌≡◌, ◌∙◌, ◌&&◌, ◌||◌, inl, inr, false, Some, refl, sym, subst, ap}
use Rattle.std.proofs.lemmas.Option.{slice_get-get_or}
use Rattle.draid_clashes.specs.Mending.{mends_one}
use Rattle.draid_clashes.proofs.TwoMend.{Seen, none_two, seen_next, two_have}
use Rattle.draid_clashes.proofs.mending.two_mend.Goals as goal
use Rattle.draid_clashes.proofs.mending.two_mend.Goals.{then-before-2, else-before-2}

pub returns-then-mends : goal.returns-then-mends
returns-then-mends c = (
  λ _. two_have c.args.lanes.now c.loop-lane.lane-index c.loop-lane.before c.loop-lane.invariant c.lane-item.result
      (slice_get-get_or c.args.lanes.now c.loop-lane.lane-index c.lane-item.result c.loop-lane-test.true ∙ ap Some (sym c.lane-item.is))
      (ap mends_one (sym c.deref.ensures.value) ∙ sym c.lane_mends-mends.ensures ∙ c.if-mends.true) c.if-before.true,
  λ _. refl,
)

pub loop-lane-preserved : goal.loop-lane-preserved
loop-lane-preserved c =
    let mends = c.lane_mends-mends.result in
    let not : (c.loop-lane.before && mends) ≡ false = elim c.else-before.either [ inl is ↦ cc (is.0, is.1) | inr is ↦ cc is ] in
    let new : (c.loop-lane.before || mends) ≡ c.if-before-2.before = elim c.if-before-2.branch [
      | then-before-2 w ↦ (let was = w.if-before-2.true in let is = w.before-is in cc (was, is))
      | else-before-2 w ↦ (let was = w.if-before-2.false in let is = w.before-is in cc (was, is))
    ] in
    subst (Seen c.args.lanes.now _) new
    (seen_next c.args.lanes.now c.loop-lane.lane-index c.loop-lane.before c.loop-lane.invariant c.lane-item.result
    (slice_get-get_or c.args.lanes.now c.loop-lane.lane-index c.lane-item.result c.loop-lane-test.true ∙ ap Some (sym c.lane-item.is)) mends
    (c.lane_mends-mends.ensures ∙ ap mends_one c.deref.ensures.value) not)

pub returns : goal.returns
returns c = (
  λ no. absurd (cc no),
  λ clash. absurd (none_two c.args.lanes.now c.loop-lane.lane-index c.loop-lane.before c.loop-lane-test.false c.loop-lane.invariant clash),
)

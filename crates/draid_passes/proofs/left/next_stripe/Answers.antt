use Rattle.std.proofs.Common.{◌≡◌, ◌∙◌, ap, sym, subst}
use Rattle.draid_world.specs.World.{held_in, pass_of}
use Rattle.draid_passes.specs.Left.{left_of, lower_of}
use Rattle.draid_passes.proofs.Lefts.{Covers, IsLeast, least_none, least_lower, covers_lower, covers_new, if_some, if_none, first_after, nothing_after}
use Rattle.draid_passes.proofs.Walks.{Walked, walked_none, walked_more, walked_weaker, walked_here}
use Rattle.draid_passes.proofs.left.next_stripe.Goals as goal

pub loop-block-init : goal.loop-block-init
loop-block-init c = record { walked = walked_none _ _ _ c.into_iter-block-iterator.ensures.into_iter_gives.0; least = least_none _ _ }

pub first_left-requires : goal.first_left-requires
first_left-requires c = record {
  short = c.requires.short c.in-Some.field-0-0.now c.in-Some.block.now
      (walked_here _ _ _ _ c.in-Some.field-0-0.now c.in-Some.block.now c.loop-block.invariant.walked c.in-Some.ensures.steps c.into_iter-block-iterator.ensures.into_iter_gives.6);
}

pub loop-block-preserved : goal.loop-block-preserved
loop-block-preserved c =
    let p = pass_of c.args.pass.now in
    let here = walked_here _ _ _ _ c.in-Some.field-0-0.now c.in-Some.block.now c.loop-block.invariant.walked c.in-Some.ensures.steps c.into_iter-block-iterator.ensures.into_iter_gives.6 in
    let is : c.lower-first.result ≡ lower_of c.loop-block.first (left_of p c.in-Some.block.now) = c.lower-first.ensures ∙ ap (lower_of c.loop-block.first) c.first_left.ensures in
    record {
      walked = subst (λ o. Walked (Covers p o) c.args.held.now.entries c.next.new.self) (sym is)
          (walked_more _ _ _ _ c.in-Some.field-0-0.now c.in-Some.block.now
          (walked_weaker _ _ _ _ (λ h. covers_lower p c.loop-block.first (left_of p c.in-Some.block.now) h) c.loop-block.invariant.walked) c.in-Some.ensures.steps
          (covers_new p c.loop-block.first c.in-Some.block.now));
      least = subst (λ o. IsLeast (held_in c.args.held.now.entries) p o) (sym is)
          (least_lower (held_in c.args.held.now.entries) p c.loop-block.first c.in-Some.field-0-0.now c.in-Some.block.now here c.loop-block.invariant.least);
    }

pub returns-clause-some : goal.returns-clause-some
returns-clause-some c = if_some c.loop-block.first _ (λ x is. first_after _ _ (pass_of c.args.pass.now) c.loop-block.first x c.loop-block.invariant.walked c.in-None.ensures.steps.0 c.loop-block.invariant.least is)

pub returns-clause-none : goal.returns-clause-none
returns-clause-none c = if_none c.loop-block.first _ (λ is. nothing_after _ _ (pass_of c.args.pass.now) c.loop-block.first c.loop-block.invariant.walked c.in-None.ensures.steps.0 is)

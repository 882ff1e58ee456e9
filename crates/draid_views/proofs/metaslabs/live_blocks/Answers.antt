use Rattle.std.proofs.Common.{◌≡◌, ◌+◌, ◌∙◌, Bool, arith, subst, sym, if◌then◌else◌}
use Rattle.draid_views.specs.Views.{IsLiveAt}
use Rattle.draid_views.proofs.Counts.{CountsBelow, counts_few, counts_none}
use Rattle.draid_views.proofs.Stripes.{live_all, live_next, pointer_low}
use Rattle.draid_views.proofs.metaslabs.live_blocks.Goals.{then-is_live, else-is_live}
use Rattle.draid_views.proofs.metaslabs.live_blocks.Goals as goal

pub loop-pointer-init : goal.loop-pointer-init
loop-pointer-init g c = record { counts = counts_none (IsLiveAt c.args.shard.now); low = omega arith }

pub overflow_add-blocks : goal.overflow_add-blocks
overflow_add-blocks g c =
    let i = c.loop-pointer.invariant in
    let few = counts_few (IsLiveAt c.args.shard.now) c.loop-pointer.stripe c.loop-pointer.blocks i.counts in
    let low = i.low in
    omega (arith, few, low)

pub overflow_add-stripe : goal.overflow_add-stripe
overflow_add-stripe g c = let low = pointer_low c.args.shard.now c.loop-pointer.stripe c.in-Some.pointer c.in-Some.ensures.some in omega (arith, low)

pub loop-pointer-smaller : goal.loop-pointer-smaller
loop-pointer-smaller g c =
    let low = pointer_low c.args.shard.now c.loop-pointer.stripe c.in-Some.pointer c.in-Some.ensures.some in
    let from = c.in-Some.ensures.some.behind in
    omega (arith, low, from)

pub loop-pointer-preserved : goal.loop-pointer-preserved
loop-pointer-preserved g c =
    let low = pointer_low c.args.shard.now c.loop-pointer.stripe c.in-Some.pointer c.in-Some.ensures.some in
    let next = live_next c.args.shard.now c.loop-pointer.stripe c.loop-pointer.blocks c.in-Some.pointer c.is_live.result c.loop-pointer.invariant.counts c.in-Some.ensures.some c.is_live.ensures in
    let count : Bool → Type 0 = λ b. CountsBelow (IsLiveAt c.args.shard.now) (c.in-Some.pointer.first + 1) (c.loop-pointer.blocks + (if b then 1 else 0)) in
    elim c.if-is_live.branch [
      | then-is_live w ↦ record {
        counts = subst (CountsBelow (IsLiveAt c.args.shard.now) (c.in-Some.pointer.first + 1)) (sym w.blocks-is) (subst count w.if-is_live.true next);
        low = omega (arith, low);
      }
      | else-is_live w ↦ record {
        counts = subst (CountsBelow (IsLiveAt c.args.shard.now) (c.in-Some.pointer.first + 1)) (sym (w.blocks-is ∙ let none : c.loop-pointer.blocks ≡ c.loop-pointer.blocks + 0 = omega arith in none))
            (subst count w.if-is_live.false next);
        low = omega (arith, low);
      }
    ]

pub returns : goal.returns
returns g c = live_all c.args.shard.now c.loop-pointer.stripe c.loop-pointer.blocks c.loop-pointer.invariant.counts c.loop-pointer.invariant.low c.in_default.ensures.none

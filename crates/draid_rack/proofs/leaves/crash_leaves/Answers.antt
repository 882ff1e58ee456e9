use Rattle.std.proofs.Common.{◌∙◌}
use Rattle.draid_rack.specs.Sectors.{crashed}
use Rattle.draid_rack.proofs.Crashes.{before_next, before_this, comes_before, crash_step, fewer_left, from_next, nothing_between}
use Rattle.draid_rack.proofs.leaves.crash_leaves.Goals as goal

pub loop-next-smaller : goal.loop-next-smaller
loop-next-smaller c =
    fewer_left c.loop-next.next c.first_behind-next.result _ c.in-Some.is c.loop-next.invariant.small
    (from_next c.crash_leaf.new.leaves _ c.first_behind-next.result c.first_behind-next.ensures.some)

pub loop-next-preserved : goal.loop-next-preserved
loop-next-preserved c =
    let now = c.crash_leaf.new.leaves in
    let next = c.first_behind-next.result in
    let e = c.first_behind-next.ensures in
    record {
      views = λ m q. crash_step (crashed c.args.rule) c.in-Some.leaf m (comes_before next m) _ _ _
          (before_this c.loop-next.next c.in-Some.leaf m (crashed c.args.rule) _ _ c.in-Some.is (c.loop-next.invariant.views m q)) (c.crash_leaf.ensures.views m q)
          (before_next now c.in-Some.leaf next m e.some) (nothing_between now c.in-Some.leaf next m q e.some e.none);
      small = e.small;
      sectors = λ m. c.crash_leaf.ensures.sectors m ∙ c.loop-next.invariant.sectors m;
      faults = λ m. c.crash_leaf.ensures.faults m ∙ c.loop-next.invariant.faults m;
    }

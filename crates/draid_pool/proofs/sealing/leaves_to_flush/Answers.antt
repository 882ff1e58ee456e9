use Rattle.std.proofs.Common.{◌+◌, ℕ, arith, subst, sym}
use Rattle.draid_pool.specs.Sealing.{FlushedBelow}
use Rattle.draid_pool.proofs.LeavesFlushed.{flushed_all, flushed_on}
use Rattle.draid_pool.proofs.sealing.leaves_to_flush.Given as given
use Rattle.draid_pool.proofs.sealing.leaves_to_flush.Goals as goal
use Rattle.draid_pool.proofs.sealing.leaves_to_flush.Goals.{In_ok-add_flushed}

-- the leaf that was found is looked at too
one_more : (g : given.Over) (c : In_ok-add_flushed g) → FlushedBelow (g.R.Rack.shape c.args.rack.now) c.args.slots.now c.add_flushed.new.leaves.items (c.in-Some.leaf + 1)
one_more g c =
    let e = c.in-Some.ensures.some in
    c.in_ok-add_flushed.ensures (g.R.Rack.shape c.args.rack.now) e.1
    (flushed_on (g.R.Rack.shape c.args.rack.now) c.args.slots.now c.loop-leaf.leaves.items c.loop-leaf.from c.in-Some.leaf e.2 c.loop-leaf.invariant)

pub returns-in-None : goal.returns-in-None
returns-in-None g c =
    let past = c.in-None.ensures in
    flushed_all (g.R.Rack.shape c.args.rack.now) c.args.slots.now c.add_flushed.new.leaves.items (c.in-Some.leaf + 1)
    (λ m from less. absurd (past (omega (arith, from, less)))) (one_more g (goal.at.returns-in-None g c).In_ok-add_flushed)

pub loop-leaf-preserved : goal.loop-leaf-preserved
loop-leaf-preserved g c =
    subst (λ (n : ℕ). FlushedBelow (g.R.Rack.shape c.args.rack.now) c.args.slots.now c.add_flushed.new.leaves.items n) (sym c.in-Some-checked_add.ensures.1)
    (one_more g (goal.at.loop-leaf-preserved g c).In_ok-add_flushed)

pub returns : goal.returns
returns g c =
    flushed_all (g.R.Rack.shape c.args.rack.now) c.args.slots.now c.loop-leaf.leaves.items c.loop-leaf.from (λ m from less. c.in_default.ensures.none m from) c.loop-leaf.invariant

use Rattle.draid_rack.specs.Leaves.{told_of, view_at}
use Rattle.draid_rack.specs.Rack.{flushes}
use Rattle.std.proofs.Common.{arith, ap}
use Rattle.draid_rack.proofs.Sound.{long_on, long_same, tick_later, up_to_on, up_to_same}
use Rattle.draid_rack.proofs.Tells.{told_same, shape_same, told_flushed}
use Rattle.draid_rack.proofs.Flushed.{counts_none, kept, only_none}
use Rattle.draid_rack.proofs.Counted.{counts_leaf, only_leaf, rises}
use Rattle.draid_rack.proofs.Moments.{goes_flushes, elapsed_change, elapsed_same}
use Rattle.draid_rack.proofs.memory.MemoryRackRack.flush.Goals as goal

pub invariant_of-self : goal.invariant_of-self
invariant_of-self c = record {
  whole = long_same _ c.args.self.now.leaves c.count_fault.new.leaves c.count_fault.ensures.views c.args.self.now.whole;
  orderly = up_to_same _ _ c.args.self.now.leaves c.count_fault.new.leaves (omega arith) c.count_fault.ensures.views c.args.self.now.orderly;
}

pub invariant_of-self-2 : goal.invariant_of-self-2
invariant_of-self-2 c = record {
  whole = long_on _ _ _ c.args.self.now.leaves c.flush_leaf.new.leaves (λ x h. record { bytes = h.bytes; kept = h.bytes }) c.args.self.now.whole c.flush_leaf.ensures;
  orderly = let later = tick_later _ _ c.later-self.ensures in
      up_to_on c.args.self.now.clock _ _ _ c.args.self.now.leaves c.flush_leaf.new.leaves later (λ x h. omega (arith, h, later)) c.args.self.now.orderly c.flush_leaf.ensures;
}

pub returns-clause-ok : goal.returns-clause-ok
returns-clause-ok c = told_flushed _ c.args.self.now.clock _ c.args.self.now.leaves c.flush_leaf.new.leaves c.later-self.ensures c.flush_leaf.ensures

pub returns-clause-shape : goal.returns-clause-shape
returns-clause-shape c = shape_same _ c.args.self.now.leaves c.flush_leaf.new.leaves c.flush_leaf.ensures.sectors

pub returns-then-fails-clause-moments : goal.returns-then-fails-clause-moments
returns-then-fails-clause-moments c = elapsed_same (told_of (view_at c.args.self.now.leaves) c.args.self.now.clock) _ (told_same _ c.args.self.now.leaves c.count_fault.new.leaves c.count_fault.ensures.views)

pub returns-then-fails-clause-exact : goal.returns-then-fails-clause-exact
returns-then-fails-clause-exact c = only_leaf c.args.leaf c.args.self.now.own_faults c.args.self.now.leaves c.count_fault.new.leaves (rises _ _ _ c.count_fault.ensures)

pub returns-clause-moments : goal.returns-clause-moments
returns-clause-moments c = elapsed_change (flushes c.args.leaf) (goes_flushes c.args.leaf) (told_of (view_at c.args.self.now.leaves) c.args.self.now.clock) _ (returns-clause-ok c)

pub returns-then-fails-clause-cause : goal.returns-then-fails-clause-cause
returns-then-fails-clause-cause c = counts_leaf c.args.leaf c.args.self.now.own_faults c.args.self.now.leaves c.count_fault.new.leaves (rises _ _ _ c.count_fault.ensures) _

pub returns-then-fails-clause-ok : goal.returns-then-fails-clause-ok
returns-then-fails-clause-ok c = tt

pub returns-then-fails-clause-err : goal.returns-then-fails-clause-err
returns-then-fails-clause-err c = told_same _ c.args.self.now.leaves c.count_fault.new.leaves c.count_fault.ensures.views

pub returns-then-fails-clause-shape : goal.returns-then-fails-clause-shape
returns-then-fails-clause-shape c = shape_same _ c.args.self.now.leaves c.count_fault.new.leaves c.count_fault.ensures.sectors

pub returns-then-fails-clause-flushed : goal.returns-then-fails-clause-flushed
returns-then-fails-clause-flushed c = tt

pub returns-then-fails-clause-unflushed : goal.returns-then-fails-clause-unflushed
returns-then-fails-clause-unflushed c = λ l s. ap kept (c.count_fault.ensures.views l s)

pub returns-clause-err : goal.returns-clause-err
returns-clause-err c = tt

pub returns-clause-unflushed : goal.returns-clause-unflushed
returns-clause-unflushed c = tt

pub returns-clause-cause : goal.returns-clause-cause
returns-clause-cause c = counts_none c.args.leaf c.args.self.now.own_faults c.args.self.now.leaves c.flush_leaf.new.leaves c.flush_leaf.ensures.faults

pub returns-clause-exact : goal.returns-clause-exact
returns-clause-exact c = only_none c.args.leaf c.args.self.now.own_faults c.args.self.now.leaves c.flush_leaf.new.leaves c.flush_leaf.ensures.faults

use Rattle.draid_rack.specs.Leaves.{told_of, view_at}
use Rattle.std.proofs.Common.{arith, refl}
use Rattle.draid_rack.proofs.Sound.{long_same, up_to_same}
use Rattle.draid_rack.proofs.Tells.{told_same, long_at}
use Rattle.draid_rack.proofs.Counted.{counts_leaf, only_leaf, rises}
use Rattle.draid_rack.proofs.Moments.{elapsed_same}
use Rattle.draid_rack.proofs.memory.MemoryRackRack.read.Goals as goal

pub invariant_of-self : goal.invariant_of-self
invariant_of-self c = record {
  whole = long_same _ c.args.self.now.leaves c.count_fault.new.leaves c.count_fault.ensures.views c.args.self.now.whole;
  orderly = up_to_same _ _ c.args.self.now.leaves c.count_fault.new.leaves (omega arith) c.count_fault.ensures.views c.args.self.now.orderly;
}

pub read_sector-requires : goal.read_sector-requires
read_sector-requires c = long_at _ c.args.self.now.leaves _ _ _ c.args.self.now.whole c.requires.place.there c.requires.place.whole

pub returns-then-fails-clause-moments : goal.returns-then-fails-clause-moments
returns-then-fails-clause-moments c = elapsed_same (told_of (view_at c.args.self.now.leaves) c.args.self.now.clock) _ (told_same _ c.args.self.now.leaves c.count_fault.new.leaves c.count_fault.ensures.views)

pub returns-then-fails-clause-exact : goal.returns-then-fails-clause-exact
returns-then-fails-clause-exact c = only_leaf c.args.leaf c.args.self.now.own_faults c.args.self.now.leaves c.count_fault.new.leaves (rises _ _ _ c.count_fault.ensures)

pub returns-clause-moments : goal.returns-clause-moments
returns-clause-moments c = elapsed_same (told_of (view_at c.args.self.now.leaves) c.args.self.now.clock) _ refl

pub returns-then-fails-clause-cause : goal.returns-then-fails-clause-cause
returns-then-fails-clause-cause c = counts_leaf c.args.leaf c.args.self.now.own_faults c.args.self.now.leaves c.count_fault.new.leaves (rises _ _ _ c.count_fault.ensures) _

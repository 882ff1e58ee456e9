use Rattle.std.proofs.Common.{arith, ap, ◌∙◌}
use Rattle.draid_rack.specs.Leaves.{bytes_of}
use Rattle.draid_rack.proofs.Crashes.{is_outcome, leaves_by_rule, long_crashed}
use Rattle.draid_rack.proofs.Sound.{long_on, up_to_on}
use Rattle.draid_rack.proofs.Tells.{shape_same}
use Rattle.draid_rack.proofs.memory.MemoryRack.crash.Goals as goal

pub invariant_of-self : goal.invariant_of-self
invariant_of-self c = record {
  whole = long_on _ _ _ c.args.self.now.leaves c.crash_leaves.new.leaves (λ x h. long_crashed c.args.rule _ x h) c.args.self.now.whole c.crash_leaves.ensures;
  orderly = up_to_on c.args.self.now.clock _ _ _ c.args.self.now.leaves c.crash_leaves.new.leaves (omega arith) (λ x h. h) c.args.self.now.orderly c.crash_leaves.ensures;
}

pub returns-clause-told : goal.returns-clause-told
returns-clause-told c = is_outcome _ _ _ c.args.self.now.leaves c.crash_leaves.new.leaves c.args.self.now.whole c.crash_leaves.ensures

pub returns-clause-exact : goal.returns-clause-exact
returns-clause-exact c = λ l s. ap bytes_of (c.crash_leaves.ensures.views l s) ∙ leaves_by_rule _ _

pub returns-clause-shape : goal.returns-clause-shape
returns-clause-shape c = shape_same _ c.args.self.now.leaves c.crash_leaves.new.leaves c.crash_leaves.ensures.sectors

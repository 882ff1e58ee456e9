use Rattle.draid_rack.specs.Leaves.{told_of, view_at}
use Rattle.draid_rack.specs.Rack.{drops}
use Rattle.draid_rack.proofs.Sound.{long_dropped, tick_later, up_to_dropped}
use Rattle.draid_rack.proofs.Moments.{goes_drops, elapsed_change}
use Rattle.draid_rack.proofs.Tells.{told_dropped}
use Rattle.draid_rack.proofs.memory.MemoryRackRack.drop_leaf.Goals as goal

pub invariant_of-self : goal.invariant_of-self
invariant_of-self c = record {
  whole = long_dropped _ _ c.args.self.now.leaves c.remove_leaf.new.leaves c.args.self.now.whole c.remove_leaf.ensures;
  orderly = up_to_dropped _ c.args.self.now.clock _ c.args.self.now.leaves c.remove_leaf.new.leaves (tick_later _ _ c.later-self.ensures) c.args.self.now.orderly c.remove_leaf.ensures;
}

pub returns-clause-moments : goal.returns-clause-moments
returns-clause-moments c =
    elapsed_change (drops c.args.leaf) (goes_drops c.args.leaf) (told_of (view_at c.args.self.now.leaves) c.args.self.now.clock) _
    (told_dropped c.args.leaf c.args.self.now.clock _ c.args.self.now.leaves c.remove_leaf.new.leaves c.remove_leaf.ensures c.later-self.ensures)

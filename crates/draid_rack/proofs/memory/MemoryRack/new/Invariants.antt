use Rattle.std.proofs.Common.{◌≡◌, ◌<◌, ◌≤◌, ℕ, None}
use Rattle.draid_rack.specs.Leaves.{IsBlank, leaf_at}
use Rattle.draid_rack.proofs.memory.MemoryRack.new.Given as goal

abbrev pub invariant-loop-leaf : goal.invariant-loop-leaf
invariant-loop-leaf l = record {
  there : (m : ℕ) → m < l.leaf → IsBlank l.sectors l.bytes 0 (leaf_at l.rows m);
  no_other : (m : ℕ) → l.leaf ≤ m → leaf_at l.rows m ≡ None;
}

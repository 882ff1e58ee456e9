use Rattle.std.proofs.Common.{◌≡◌, ◌≤◌, length, take, vec_capacity}
use Rattle.draid_rack.specs.Rack.{OnBothTold}
use Rattle.draid_columns.specs.Flushes.{CountsFailed, FlushesBut}
use Rattle.draid_columns.proofs.flush.flush_leaves.Given as goal

abbrev pub invariant-loop-leaf : goal.invariant-loop-leaf
invariant-loop-leaf g l = let rack = g.R.Rack in record {
  shape : rack.shape l.rack ≡ rack.shape l.initial.rack;
  few : length l.failed.items ≤ l.leaf-index;
  room : length l.leaves ≤ vec_capacity l.failed;
  told : OnBothTold (rack.told l.initial.rack) (rack.told l.rack) (FlushesBut (take l.leaf-index l.leaves) l.failed.items);
  cause : CountsFailed (take l.leaf-index l.leaves) l.failed.items (rack.faults l.initial.rack) (rack.faults l.rack);
}

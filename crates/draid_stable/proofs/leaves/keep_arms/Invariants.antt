use Rattle.std.proofs.Common.{◌≡◌, ◌<◌, ◌-◌, ◌^◌, ℕ, None, false, not, true}
use Rattle.draid_rack.specs.Moments.{LeavesTold}
use Rattle.draid_stable.specs.Opening.{KeepsCounts, has_leaf_arm}
use Rattle.draid_stable.proofs.leaves.keep_arms.Given as goal

abbrev pub invariant-loop-leaf : goal.invariant-loop-leaf
invariant-loop-leaf g l = let rack = g.R.Rack in record {
  told : LeavesTold (λ leaf sector. not (has_leaf_arm l.slots leaf)) (rack.told l.initial.rack) (rack.told l.rack);
  bytes : (rack.shape l.rack).bytes ≡ (rack.shape l.initial.rack).bytes;
  kept : (leaf : ℕ) → has_leaf_arm l.slots leaf ≡ true → (rack.shape l.rack).leaves leaf ≡ (rack.shape l.initial.rack).leaves leaf;
  gone : (leaf : ℕ) → leaf < l.from → has_leaf_arm l.slots leaf ≡ false → (rack.shape l.rack).leaves leaf ≡ None;
  later : KeepsCounts l.slots (rack.faults l.initial.rack) (rack.faults l.rack);
}

abbrev pub decreases-loop-leaf : goal.decreases-loop-leaf
decreases-loop-leaf g l = 2 ^ 64 - l.from

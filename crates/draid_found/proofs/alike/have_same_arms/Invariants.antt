use Rattle.std.proofs.Common.{◌≡◌, ◌<◌, ◌≤◌, ℕ, Some, length}
use Rattle.std.specs.Prelude.{slice_get}
use Rattle.draid_names.specs.declared.arm.Arm.{Arm}
use Rattle.draid_shard.specs.Alike.{IsSameArm}
use Rattle.draid_found.proofs.alike.have_same_arms.Given as goal

-- the arms so far are the same
abbrev pub invariant-loop-place : goal.invariant-loop-place
invariant-loop-place l = record {
  same : (k : ℕ) (p q : Arm) → k < l.place → slice_get l.one k ≡ Some p → slice_get l.other k ≡ Some q → IsSameArm p q;
  bound : l.place ≤ length l.one;
}

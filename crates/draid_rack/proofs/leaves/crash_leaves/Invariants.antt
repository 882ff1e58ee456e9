use Rattle.std.proofs.Common.{◌≡◌, ◌^◌, ◌<◌, ℕ, IfSome, option_map, if◌then◌else◌}
use Rattle.draid_rack.specs.Leaves.{faults_in, leaf_at, sectors_in, view_at}
use Rattle.draid_rack.specs.Sectors.{crashed}
use Rattle.draid_rack.proofs.Crashes.{comes_before, left_from}
use Rattle.draid_rack.proofs.leaves.crash_leaves.Given as goal

abbrev pub decreases-loop-next : goal.decreases-loop-next
decreases-loop-next l = left_from l.next

abbrev pub invariant-loop-next : goal.invariant-loop-next
invariant-loop-next l = record {
  views : (m q : ℕ) → view_at l.leaves m q ≡ (if comes_before l.next m then option_map (crashed l.rule) (view_at l.fn.leaves m q) else view_at l.fn.leaves m q);
  small : IfSome l.next (λ n. n < 2 ^ 64);
  sectors : (m : ℕ) → sectors_in (leaf_at l.leaves m) ≡ sectors_in (leaf_at l.fn.leaves m);
  faults : (m : ℕ) → faults_in (leaf_at l.leaves m) ≡ faults_in (leaf_at l.fn.leaves m);
}

use Rattle.std.proofs.Common.{◌≡◌, ◌<◌, ◌≤◌, ℕ, true, false, length, slice_index_or}
use Rattle.draid_visits.proofs.marks.marks_from.Given as goal

abbrev pub invariant-loop-metaslab : goal.invariant-loop-metaslab
invariant-loop-metaslab l = record {
  from : l.first ≤ l.metaslab;
  long : length l.marks ≡ 64;
  marked : (k : ℕ) → k < 64 → l.first ≤ k → k < l.metaslab → slice_index_or l.marks k false ≡ true;
  only : (k : ℕ) → slice_index_or l.marks k false ≡ true → l.first ≤ k;
}

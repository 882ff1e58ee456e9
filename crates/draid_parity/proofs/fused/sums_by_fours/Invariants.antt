use Rattle.std.proofs.Common.{length, ◌-◌, ◌<◌, ◌≤◌}
use Rattle.draid_parity.specs.Rows.{AreSums}
use Rattle.draid_parity.proofs.fused.sums_by_fours.Given as goal

abbrev pub invariant-fours : goal.invariant-fours
invariant-fours g l =
    let rows = g.V.Rows in
    record {
      sums : AreSums rows.COUNT l.at l.columns (l.i - 3) (rows.bytes l.sums.0) (rows.bytes l.sums.1) (rows.bytes l.sums.2);
      some : 3 < l.i;
      inside : l.i ≤ length l.columns;
    }

abbrev pub decreases-fours : goal.decreases-fours
decreases-fours g l = length l.columns - l.i

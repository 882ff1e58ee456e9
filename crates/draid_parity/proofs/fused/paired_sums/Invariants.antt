use Rattle.std.proofs.Common.{◌-◌, ◌^◌, ◌<◌, ◌≤◌, length}
use Rattle.draid_gf.specs.Lanes.{HasLanes}
use Rattle.draid_parity.proofs.Horner.{front}
use Rattle.draid_parity.proofs.fused.paired_sums.Given as goal

abbrev pub invariant-pairs : goal.invariant-pairs
invariant-pairs g l =
    let rows = g.V.Rows in
    record {
      some : l.parity < l.i;
      inside : l.i ≤ length l.columns;
      first : HasLanes rows.COUNT (rows.bytes l.first) (front (2 ^ l.k) l.at l.parity l.columns (l.i - l.parity));
      second : HasLanes rows.COUNT (rows.bytes l.second) (front (2 ^ l.l) l.at l.parity l.columns (l.i - l.parity));
    }

abbrev pub decreases-pairs : goal.decreases-pairs
decreases-pairs g l = length l.columns - l.i

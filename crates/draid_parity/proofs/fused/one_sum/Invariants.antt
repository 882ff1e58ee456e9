use Rattle.std.proofs.Common.{◌+◌, ◌-◌, ◌^◌, take, drop}
use Rattle.draid_gf.specs.Lanes.{HasLanes}
use Rattle.draid_parity.specs.Codeword.{weighted_sum}
use Rattle.draid_parity.specs.Columns.{byte_row}
use Rattle.draid_parity.proofs.fused.one_sum.Given as goal

abbrev pub invariant-loop-i : goal.invariant-loop-i
invariant-loop-i g l =
    HasLanes g.V.Rows.COUNT (g.V.Rows.bytes l.sum)
    (λ j. weighted_sum (2 ^ l.k) (take (l.i - l.parity) (byte_row (l.at + j) (drop l.parity l.columns))))

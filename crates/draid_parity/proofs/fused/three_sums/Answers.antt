use Rattle.std.proofs.Common.{ℕ, List, length, drop, ◌+◌, ◌-◌, ◌^◌, ◌≤◌, arith}
use Rattle.draid_gf.specs.Lanes.{HasLanes}
use Rattle.draid_parity.specs.Codeword.{parity_sum}
use Rattle.draid_parity.specs.Columns.{byte_row}
use Rattle.draid_parity.specs.Rows.{AreSums}
use Rattle.draid_parity.proofs.Horner.{whole_lanes}
use Rattle.draid_parity.proofs.fused.three_sums.Goals as goal

-- the sums of so many columns that these are all
all_of : (n at i : ℕ) (columns : List (List ℕ)) (p q r : List ℕ) → length columns ≤ i → AreSums n at columns (i - 3) p q r
    → record {
      first : HasLanes n p (λ j. parity_sum 0 (byte_row (at + j) (drop 3 columns)));
      second : HasLanes n q (λ j. parity_sum 1 (byte_row (at + j) (drop 3 columns)));
      third : HasLanes n r (λ j. parity_sum 2 (byte_row (at + j) (drop 3 columns)));
    }
all_of n at i columns p q r past sums = record {
  first = whole_lanes n at 3 i (2 ^ 0) columns p past sums.p;
  second = whole_lanes n at 3 i (2 ^ 1) columns q past sums.q;
  third = whole_lanes n at 3 i (2 ^ 2) columns r past sums.r;
}

pub returns-in-0 : goal.returns-in-0
returns-in-0 g c =
    let sums = c.sums_by_fours-sums.result.0 in
    let list = g.V.Rows.bytes in
    all_of g.V.Rows.COUNT c.args.at c.sums_by_fours-sums.result.1 c.args.columns.now (list sums.0) (list sums.1) (list sums.2)
    (omega arith) c.sums_by_fours-sums.ensures.sums

pub returns-in-1 : goal.returns-in-1
returns-in-1 g c =
    let i = c.sums_by_fours-sums.result.1 in
    let sums = c.one_more.result in
    let list = g.V.Rows.bytes in
    all_of g.V.Rows.COUNT c.args.at (i + 1) c.args.columns.now (list sums.0) (list sums.1) (list sums.2) (omega arith) c.one_more.ensures

pub returns-in-2 : goal.returns-in-2
returns-in-2 g c =
    let i = c.sums_by_fours-sums.result.1 in
    let sums = c.two_more.result in
    let list = g.V.Rows.bytes in
    all_of g.V.Rows.COUNT c.args.at (i + 2) c.args.columns.now (list sums.0) (list sums.1) (list sums.2) (omega arith) c.two_more.ensures

pub returns-in_default : goal.returns-in_default
returns-in_default g c =
    let i = c.sums_by_fours-sums.result.1 in
    let rest = c.sums_by_fours-sums.ensures.rest in
    let sums = c.one_more-in_default.result in
    let list = g.V.Rows.bytes in
    all_of g.V.Rows.COUNT c.args.at (i + 2 + 1) c.args.columns.now (list sums.0) (list sums.1) (list sums.2) (omega (arith, rest)) c.one_more-in_default.ensures

use Rattle.std.proofs.Common.{◌^◌, ◌∙◌, [], arith}
use Rattle.std.proofs.lemmas.List.{get_or_default}
use Rattle.draid_parity.proofs.Horner.{first_lanes}
use Rattle.draid_parity.proofs.fused.sums_by_fours.Goals as goal

pub fours-init : goal.fours-init
fours-init g c =
    let n = g.V.Rows.COUNT in
    let columns = c.args.columns.now in
    let column = c.index-columns-3.result in
    let row = c.rows-row in
    let bytes = g.V.Rows.bytes row.result in
    let is = c.index-columns-3.is ∙ get_or_default columns 3 column [] c.requires.some in
    record {
      sums = record {
        p = first_lanes n c.args.at 3 4 (2 ^ 0) columns bytes column c.requires.some is (omega arith) row.ensures.lanes row.ensures.bytes;
        q = first_lanes n c.args.at 3 4 (2 ^ 1) columns bytes column c.requires.some is (omega arith) row.ensures.lanes row.ensures.bytes;
        r = first_lanes n c.args.at 3 4 (2 ^ 2) columns bytes column c.requires.some is (omega arith) row.ensures.lanes row.ensures.bytes;
      };
      some = omega arith;
      inside = c.requires.some;
    }

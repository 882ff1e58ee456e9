use Rattle.std.proofs.Common.{◌≡◌, arith}
use Rattle.draid_parity.proofs.Horner.{horner0, horner1, horner2}
use Rattle.draid_parity.proofs.fused.horner.Goals as goal

pub returns-in-0 : goal.returns-in-0
returns-in-0 g c =
    let rows = g.V.Rows in
    horner0 rows.COUNT c.args.k (rows.bytes c.args.sum) (rows.bytes c.args.row) (rows.bytes c.plus.result) c.in-0.is c.plus.ensures

pub returns-in-1 : goal.returns-in-1
returns-in-1 g c =
    let rows = g.V.Rows in
    horner1 rows.COUNT c.args.k (rows.bytes c.args.sum) (rows.bytes c.twice.result) (rows.bytes c.args.row) (rows.bytes c.plus-in-1.result)
    c.in-1.is c.twice.ensures c.plus-in-1.ensures

pub returns-in_default : goal.returns-in_default
returns-in_default g c =
    let rows = g.V.Rows in
    let two : c.args.k ≡ 2 = omega arith in
    horner2 rows.COUNT c.args.k (rows.bytes c.args.sum) (rows.bytes c.four_times.result) (rows.bytes c.args.row) (rows.bytes c.plus-in_default.result) two
    c.four_times.ensures c.plus-in_default.ensures

use Rattle.std.proofs.Common.{◌+◌, ◌<◌, length, arith}
use Rattle.draid_parity.specs.Columns.{rest_of}
use Rattle.draid_parity.proofs.PairLemmas.{solves_one}
use Rattle.draid_parity.proofs.single.solve_at.Goals as goal

pub add_rows-requires-clause-count : goal.add_rows-requires-clause-count
add_rows-requires-clause-count g c =
    let seen = c.deref.result.now in
    let lanes = c.part.ensures (λ j. rest_of c.args.parity seen c.args.k (c.args.at + j)) c.rest-rest.ensures.lanes c.rest-rest.ensures.bytes in
    lanes.long

pub returns : goal.returns
returns g c =
    let seen = c.deref.result.now in
    let below : c.args.x < length c.args.columns.now.items = omega arith in
    solves_one c.args.parity c.args.at g.V.Rows.COUNT c.args.k c.args.x c.args.over.now (g.V.Rows.bytes c.part.result) c.args.columns.now.items c.add_rows.new.columns.items
    seen c.deref.ensures.value (omega arith) c.requires.present c.requires.missing below c.requires.byte c.requires.over c.rest-rest.ensures.bytes
    (c.part.ensures (λ j. rest_of c.args.parity seen c.args.k (c.args.at + j)) c.rest-rest.ensures.lanes c.rest-rest.ensures.bytes) c.add_rows.ensures

use Rattle.std.proofs.Common.{◌<◌, ◌+◌, length, arith}
use Rattle.draid_parity.specs.Columns.{rest_of}
use Rattle.draid_parity.proofs.PairLemmas.{solves_pair_seen}
use Rattle.draid_parity.proofs.pair.solve_at.Goals as goal

pub add_rows-requires-clause-count : goal.add_rows-requires-clause-count
add_rows-requires-clause-count g c =
    let seen = c.deref.result.now in
    let p = c.args.parity in
    let at = c.args.at in
    let lanes =
    c.parts-first.ensures.first (λ j. rest_of p seen c.args.k (at + j)) (λ j. rest_of p seen c.args.l (at + j)) c.rests-low.ensures.first c.rests-low.ensures.second
    c.rests-low.ensures.first_bytes in
    lanes.long

pub add_rows-requires-2-clause-count : goal.add_rows-requires-2-clause-count
add_rows-requires-2-clause-count g c =
    let seen = c.deref.result.now in
    let p = c.args.parity in
    let at = c.args.at in
    let lanes =
    c.parts-first.ensures.second (λ j. rest_of p seen c.args.k (at + j)) (λ j. rest_of p seen c.args.l (at + j)) c.rests-low.ensures.first c.rests-low.ensures.second in
    lanes.long

pub returns : goal.returns
returns g c =
    let n = g.V.Rows.COUNT in
    let list = g.V.Rows.bytes in
    let pair = c.args.pair.now in
    let seen = c.deref.result.now in
    let p = c.args.parity in
    let at = c.args.at in
    let k = c.args.k in
    let l = c.args.l in
    let low = c.rests-low.ensures.first in
    let high = c.rests-low.ensures.second in
    let below : c.args.y < length c.args.columns.now.items = omega arith in
    solves_pair_seen p at n k l c.args.x c.args.y pair.node pair.between pair.over_first pair.over_second
    (list c.parts-first.result.0) (list c.parts-first.result.1) c.args.columns.now.items c.add_rows.new.columns.items c.add_rows-2.new.columns.items
    seen c.deref.ensures.value c.requires.present (omega arith) c.requires.both_present c.requires.missing c.requires.both_missing below c.requires.pair
    c.rests-low.ensures.first_bytes c.rests-low.ensures.second_bytes
    (c.parts-first.ensures.first (λ j. rest_of p seen k (at + j)) (λ j. rest_of p seen l (at + j)) low high c.rests-low.ensures.first_bytes)
    (c.parts-first.ensures.second (λ j. rest_of p seen k (at + j)) (λ j. rest_of p seen l (at + j)) low high)
    c.add_rows.ensures c.add_rows-2.ensures

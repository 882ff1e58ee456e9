use Rattle.std.proofs.Common.{◌<◌, ◌+◌, ◌-◌, length, arith}
use Rattle.draid_parity.specs.Columns.{rest_of}
use Rattle.draid_parity.proofs.TripleLemmas.{solves_three}
use Rattle.draid_parity.proofs.triple.solve_at.Goals as goal

pub add_rows-requires-clause-count : goal.add_rows-requires-clause-count
add_rows-requires-clause-count g c =
    let seen = c.deref.result.now in
    let at = c.args.at in
    let n = length c.args.columns.now.items in
    let lanes =
    c.parts-first.ensures (n - 1 - c.args.x) (n - 1 - c.args.y) (n - 1 - c.args.z) (λ j. rest_of 3 seen 0 (at + j)) (λ j. rest_of 3 seen 1 (at + j)) (λ j. rest_of 3 seen 2 (at + j)) c.requires.triple
    c.rests-p.ensures.p c.rests-p.ensures.q c.rests-p.ensures.r
    (λ j. c.rests-p.ensures.bytes 0 j (omega arith)) (λ j. c.rests-p.ensures.bytes 1 j (omega arith)) (λ j. c.rests-p.ensures.bytes 2 j (omega arith)) in
    lanes.long.0

pub add_rows-requires-2-clause-count : goal.add_rows-requires-2-clause-count
add_rows-requires-2-clause-count g c =
    let seen = c.deref.result.now in
    let at = c.args.at in
    let n = length c.args.columns.now.items in
    let lanes =
    c.parts-first.ensures (n - 1 - c.args.x) (n - 1 - c.args.y) (n - 1 - c.args.z) (λ j. rest_of 3 seen 0 (at + j)) (λ j. rest_of 3 seen 1 (at + j)) (λ j. rest_of 3 seen 2 (at + j)) c.requires.triple
    c.rests-p.ensures.p c.rests-p.ensures.q c.rests-p.ensures.r
    (λ j. c.rests-p.ensures.bytes 0 j (omega arith)) (λ j. c.rests-p.ensures.bytes 1 j (omega arith)) (λ j. c.rests-p.ensures.bytes 2 j (omega arith)) in
    lanes.long.1

pub add_rows-requires-3-clause-count : goal.add_rows-requires-3-clause-count
add_rows-requires-3-clause-count g c =
    let seen = c.deref.result.now in
    let at = c.args.at in
    let n = length c.args.columns.now.items in
    let lanes =
    c.parts-first.ensures (n - 1 - c.args.x) (n - 1 - c.args.y) (n - 1 - c.args.z) (λ j. rest_of 3 seen 0 (at + j)) (λ j. rest_of 3 seen 1 (at + j)) (λ j. rest_of 3 seen 2 (at + j)) c.requires.triple
    c.rests-p.ensures.p c.rests-p.ensures.q c.rests-p.ensures.r
    (λ j. c.rests-p.ensures.bytes 0 j (omega arith)) (λ j. c.rests-p.ensures.bytes 1 j (omega arith)) (λ j. c.rests-p.ensures.bytes 2 j (omega arith)) in
    lanes.long.2

pub returns : goal.returns
returns g c =
    let seen = c.deref.result.now in
    let at = c.args.at in
    let n = length c.args.columns.now.items in
    let lanes =
    c.parts-first.ensures (n - 1 - c.args.x) (n - 1 - c.args.y) (n - 1 - c.args.z) (λ j. rest_of 3 seen 0 (at + j)) (λ j. rest_of 3 seen 1 (at + j)) (λ j. rest_of 3 seen 2 (at + j)) c.requires.triple
    c.rests-p.ensures.p c.rests-p.ensures.q c.rests-p.ensures.r
    (λ j. c.rests-p.ensures.bytes 0 j (omega arith)) (λ j. c.rests-p.ensures.bytes 1 j (omega arith)) (λ j. c.rests-p.ensures.bytes 2 j (omega arith)) in
    let below : c.args.z < length c.args.columns.now.items = omega arith in
    solves_three at g.V.Rows.COUNT c.args.x c.args.y c.args.z (g.V.Rows.bytes c.parts-first.result.0) (g.V.Rows.bytes c.parts-first.result.1) (g.V.Rows.bytes c.parts-first.result.2)
    c.args.columns.now.items c.add_rows.new.columns.items c.add_rows-2.new.columns.items c.add_rows-3.new.columns.items seen c.deref.ensures.value
    c.requires.missing c.requires.both_missing c.requires.all_missing below lanes c.add_rows.ensures c.add_rows-2.ensures c.add_rows-3.ensures

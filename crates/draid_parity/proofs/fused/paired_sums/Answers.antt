use Rattle.std.proofs.Common.{◌≡◌, ◌+◌, ◌-◌, ◌^◌, ◌<◌, ◌≤◌, ◌∙◌, [], length, sym, subst, arith}
use Rattle.std.proofs.lemmas.List.{get_or_default}
use Rattle.draid_gf.specs.Lanes.{HasLanes}
use Rattle.draid_parity.proofs.Horner.{first_lanes, front, next_sum}
use Rattle.draid_parity.proofs.fused.paired_sums.Goals as goal

pub pairs-init : goal.pairs-init
pairs-init g c =
    let p = c.args.parity in
    let columns = c.args.columns.now in
    let column = c.index-columns-parity.result in
    let row = c.rows-first in
    let is = c.index-columns-parity.is ∙ get_or_default columns p column [] c.requires.some in
    record {
      some = omega arith;
      inside = omega arith;
      first = first_lanes g.V.Rows.COUNT c.args.at p (p + 1) (2 ^ c.args.k) columns (g.V.Rows.bytes row.result) column c.requires.some is (omega arith) row.ensures.lanes row.ensures.bytes;
      second = first_lanes g.V.Rows.COUNT c.args.at p (p + 1) (2 ^ c.args.l) columns (g.V.Rows.bytes row.result) column c.requires.some is (omega arith) row.ensures.lanes row.ensures.bytes;
    }

pub pairs-preserved : goal.pairs-preserved
pairs-preserved g c =
    let n = g.V.Rows.COUNT in
    let list = g.V.Rows.bytes in
    let p = c.args.parity in
    let at = c.args.at in
    let i = c.pairs.i in
    let columns = c.args.columns.now in
    let was = c.pairs.invariant in
    let some = was.some in
    let room = c.pairs-test.true in
    let below : i < length columns = omega (arith, room) in
    let next_below : i + 1 < length columns = omega (arith, room) in
    let column = c.index-columns-i.result in
    let next = c.index-columns-i-in-pairs.result in
    let is = c.index-columns-i.is ∙ get_or_default columns i column [] below in
    let next_is = c.index-columns-i-in-pairs.is ∙ get_or_default columns (i + 1) next [] next_below in
    let row = c.rows-row in
    let next_row = c.rows-row-in-pairs in
    let two : i + 1 + 1 ≡ i + 2 = omega arith in
    let first =
    next_sum n at p i c.args.k columns (list c.pairs.first) (list row.result) column (list c.horner-first.result) c.requires.kind (omega (arith, some)) below is
    row.ensures.lanes row.ensures.bytes c.horner-first.ensures was.first in
    let first_next =
    next_sum n at p (i + 1) c.args.k columns (list c.horner-first.result) (list next_row.result) next (list c.horner-first-in-pairs.result) c.requires.kind (omega (arith, some)) next_below next_is
    next_row.ensures.lanes next_row.ensures.bytes c.horner-first-in-pairs.ensures first in
    let second =
    next_sum n at p i c.args.l columns (list c.pairs.second) (list row.result) column (list c.horner-second.result) c.requires.other (omega (arith, some)) below is
    row.ensures.lanes row.ensures.bytes c.horner-second.ensures was.second in
    let second_next =
    next_sum n at p (i + 1) c.args.l columns (list c.horner-second.result) (list next_row.result) next (list c.horner-second-in-pairs.result) c.requires.other (omega (arith, some)) next_below next_is
    next_row.ensures.lanes next_row.ensures.bytes c.horner-second-in-pairs.ensures second in
    record {
      some = omega (arith, some);
      inside = omega (arith, room);
      first = subst (λ m. HasLanes n (list c.horner-first-in-pairs.result) (front (2 ^ c.args.k) at p columns (m - p))) two first_next;
      second = subst (λ m. HasLanes n (list c.horner-second-in-pairs.result) (front (2 ^ c.args.l) at p columns (m - p))) two second_next;
    }

pub rows-row-requires : goal.rows-row-requires
rows-row-requires g c =
    let i = c.pairs.i in
    let columns = c.args.columns.now in
    let room = c.pairs-test.true in
    let column = c.index-columns-i.result in
    let below : i < length columns = omega (arith, room) in
    subst (λ xs. c.args.at + g.V.Rows.COUNT ≤ length xs) (sym (c.index-columns-i.is ∙ get_or_default columns i column [] below)) (c.requires.inside i below)

pub rows-row-requires-in-pairs : goal.rows-row-requires-in-pairs
rows-row-requires-in-pairs g c =
    let i = c.pairs.i in
    let columns = c.args.columns.now in
    let room = c.pairs-test.true in
    let next = c.index-columns-i-in-pairs.result in
    let below : i + 1 < length columns = omega (arith, room) in
    subst (λ xs. c.args.at + g.V.Rows.COUNT ≤ length xs) (sym (c.index-columns-i-in-pairs.is ∙ get_or_default columns (i + 1) next [] below)) (c.requires.inside (i + 1) below)

pub returns-clause-first : goal.returns-clause-first
returns-clause-first g c = c.pairs.invariant.first

pub returns-clause-second : goal.returns-clause-second
returns-clause-second g c = c.pairs.invariant.second

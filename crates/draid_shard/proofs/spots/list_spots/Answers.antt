use Rattle.std.proofs.Common.{◌≡◌, ◌↔◌, ◌+◌, ◌++◌, ◌∙◌, IsTrue, arith, ap, length, subst, suc}
use Rattle.draid_slots.specs.Table.{arms_of}
use Rattle.draid_shard.specs.States.{part_of}
use Rattle.draid_shard.proofs.Fitted.{fits_rows}
use Rattle.draid_shard.specs.Spots.{CleanAmong, CleanBelow, spots_below, spots_in}
use Rattle.draid_shard.proofs.Listed.{clean_columns, fewer_columns, last_column, lies_in, now_false, rows_are_at, spots_are, still_true}
use Rattle.draid_shard.proofs.spots.list_spots.Goals.{then-list_column, else-list_column}
use Rattle.draid_shard.proofs.spots.list_spots.Goals as goal

pub list_column-requires-clause-lies : goal.list_column-requires-clause-lies
list_column-requires-clause-lies g c =
    let laid = c.requires.laid in
    let shape = g.R.Rack.shape c.args.shard.now.rack in
    lies_in shape c.args.shard.now.slots c.rows_of-rows.result
    (fits_rows (part_of c.args.shard.now) laid.part c.args.shard.now.slots laid.slots shape c.args.pointer.now c.requires.run c.loop-column.column c.loop-column-test.true c.rows_of-rows.result c.rows_of-rows.ensures laid.leaves)

pub loop-column-preserved : goal.loop-column-preserved
loop-column-preserved g c =
    let part = part_of c.args.shard.now in
    let slots = c.args.shard.now.slots in
    let pointer = c.args.pointer.now in
    let column = c.loop-column.column in
    let rows = c.rows_of-rows.result in
    let own = rows_are_at part pointer column rows c.rows_of-rows.ensures in
    let i = c.loop-column.invariant in
    let e = c.list_column.ensures in
    record {
      listed = e.listed ∙ (λ j. i.listed j ++ spots_in slots (own j) column) ∙ ap (spots_below part slots pointer) (let next : suc column ≡ column + 1 = omega arith in next);
      answered = elim c.if-list_column.branch [
        | then-list_column w ↦ still_true c.if-list_column.answered c.loop-column.answered (CleanAmong slots rows (length (arms_of slots rows.slot))) (CleanBelow part slots pointer column) (CleanBelow part slots pointer (column + 1)) w.answered-is
            (e.answered.0 w.if-list_column.true) i.answered (clean_columns part slots pointer c.requires.laid.once column rows own) (fewer_columns part slots pointer c.requires.laid.once column)
        | else-list_column w ↦ now_false c.if-list_column.answered c.list_column.result (CleanAmong slots rows (length (arms_of slots rows.slot))) (CleanBelow part slots pointer (column + 1)) (w.answered-is ∙ w.if-list_column.false)
            w.if-list_column.false e.answered (last_column part slots pointer c.requires.laid.once column rows own)
      ];
      few = (let was = i.few in let more = e.few in omega (arith, was, more));
      room = e.capacity ∙ i.room;
    }

pub returns-clause-spots : goal.returns-clause-spots
returns-clause-spots g c =
    let part = part_of c.args.shard.now in
    let past = c.loop-column-test.false in
    let upto = c.loop-column.auto.column-end in
    let all : c.loop-column.column ≡ part.geometry.g = omega (arith, past, upto) in
    spots_are part c.args.shard.now.slots c.args.pointer.now c.requires.laid.once c.loop-column.spots.items (c.loop-column.invariant.listed ∙ ap (spots_below part c.args.shard.now.slots c.args.pointer.now) all)

pub returns-clause-answered : goal.returns-clause-answered
returns-clause-answered g c =
    let part = part_of c.args.shard.now in
    let past = c.loop-column-test.false in
    let upto = c.loop-column.auto.column-end in
    let all : c.loop-column.column ≡ part.geometry.g = omega (arith, past, upto) in
    subst (λ n. IsTrue c.loop-column.answered ↔ CleanBelow part c.args.shard.now.slots c.args.pointer.now n) all c.loop-column.invariant.answered

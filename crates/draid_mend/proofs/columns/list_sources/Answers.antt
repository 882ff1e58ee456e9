use Rattle.std.proofs.Common.{◌≡◌, ◌<◌, ◌∙◌, List, ap, arith, length}
use Rattle.std.proofs.lemmas.List.{length-set}
use Rattle.draid_names.specs.declared.arm.At.{At}
use Rattle.draid_shard.specs.States.{part_of}
use Rattle.draid_mend.proofs.Columned.{source_more, source_none}
use Rattle.draid_mend.proofs.columns.list_sources.Goals as goal
use Rattle.draid_mend.proofs.columns.list_sources.Goals.{in-Some, in_default}

pub loop-column-preserved : goal.loop-column-preserved
loop-column-preserved g c =
    let i = c.loop-column.invariant in
    let list = c.loop-column.list in
    let upto = i.upto in
    let long = i.long in
    let room = c.requires.room in
    let test = c.loop-column-test.true in
    let inside : c.loop-column.count < length list = omega (arith, upto, long, room, test) in
    elim c.match-chosen-column.branch [
      | in-Some w ↦ (
          let same : length c.match-chosen-column.list ≡ length list = ap (λ (x : List At). length x) w.list-is ∙ length-set list c.loop-column.count _ in
          record {
            long = same ∙ long;
            upto = (let is = w.count-is in omega (arith, is, upto));
            listed = source_more (part_of c.args.shard.now) c.args.pointer.now c.args.chosen.now c.loop-column.column c.loop-column.count list i.listed c.match-chosen-column.list c.match-chosen-column.count w.rows_at.result.first
                w.in-Some.source w.in-Some.is inside w.list-is w.count-is w.rows_at.ensures.first_is;
          })
      | in_default w ↦ record {
        long = ap (λ (x : List At). length x) w.list-is ∙ long;
        upto = (let is = w.count-is in omega (arith, is, upto));
        listed = source_none (part_of c.args.shard.now) c.args.pointer.now c.args.chosen.now c.loop-column.column c.loop-column.count list i.listed c.match-chosen-column.list c.match-chosen-column.count w.in_default.is w.list-is w.count-is;
      }
    ]

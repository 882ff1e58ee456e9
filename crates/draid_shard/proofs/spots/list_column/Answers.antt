use Rattle.std.proofs.Common.{◌+◌, ◌<◌, ◌∙◌, List, arith, length, subst}
use Rattle.draid_names.specs.declared.arm.Arm.{Arm}
use Rattle.draid_shard.specs.Spots.{AnswersClean, CleanAmong, spots_in}
use Rattle.draid_shard.proofs.Listed.{clean_less, clean_more, listed_more, now_false, still_true}
use Rattle.draid_shard.proofs.spots.list_column.Goals.{then-list_arm, else-list_arm}
use Rattle.draid_shard.proofs.spots.list_column.Goals as goal
use Rattle.std.specs.Prelude.{◌++◌}

pub loop-arm-preserved : goal.loop-arm-preserved
loop-arm-preserved c =
    let slots = c.args.slots.now in
    let rows = c.args.rows in
    let k = c.loop-arm.arm in
    let i = c.loop-arm.invariant in
    let e = c.list_arm.ensures in
    record {
      listed = listed_more slots rows c.args.column c.loop-arm.spots.items c.list_arm.new.spots.items (c.args.spots.now.items ++ spots_in slots rows c.args.column) k (let less = c.loop-arm-test.true in subst (λ (arms : List Arm). k < length arms) c.arms.ensures.arms less) e.listed i.listed;
      answered = elim c.if-list_arm.branch [
        | then-list_arm w ↦ still_true c.if-list_arm.answered c.loop-arm.answered (AnswersClean slots rows k) (CleanAmong slots rows k) (CleanAmong slots rows (k + 1)) w.answered-is (e.answered.0 w.if-list_arm.true) i.answered
            (clean_more slots rows c.args.column k) (clean_less slots rows c.args.column k)
        | else-list_arm w ↦ now_false c.if-list_arm.answered c.list_arm.result (AnswersClean slots rows k) (CleanAmong slots rows (k + 1)) (w.answered-is ∙ w.if-list_arm.false) w.if-list_arm.false e.answered (λ all. all k (omega arith))
      ];
      few = (let was = i.few in let more = e.few in omega (arith, was, more));
      room = e.capacity ∙ i.room;
    }

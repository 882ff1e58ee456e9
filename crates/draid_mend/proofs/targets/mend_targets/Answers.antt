use Rattle.std.proofs.Common.{◌∙◌, arith, sym}
use Rattle.draid_machine.proofs.Small.{absurd_test}
use Rattle.draid_mend.proofs.targets.mend_targets.Goals.{then-mend_next, else-mend_next}
use Rattle.draid_mend.proofs.targets.mend_targets.Goals as goal

pub loop-i-preserved : goal.loop-i-preserved
loop-i-preserved g c =
    let i = c.loop-i.invariant in
    let e = c.mend_next.ensures in
    record {
      shape = e.shape ∙ i.shape;
      mends = e.mends _ i.mends;
      fails = e.fails _ i.fails;
      answered = elim c.if-mend_next.branch [
        | then-mend_next w ↦ λ is. e.answered w.if-mend_next.true (i.answered (sym w.answered-is ∙ is))
        | else-mend_next w ↦ λ is. absurd_test c.if-mend_next.answered is (w.answered-is ∙ w.if-mend_next.false)
      ];
      counts = λ first was. e.counts first (i.counts first was);
      room = e.room ∙ i.room;
      few = (let was = i.few in let more = e.few in omega (arith, was, more));
    }

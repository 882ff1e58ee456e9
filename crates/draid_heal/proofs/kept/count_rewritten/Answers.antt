use Rattle.std.proofs.Common.{arith, ◌∙◌, sym}
use Rattle.draid_heal.proofs.Rewritten.{none_counted, one_counted}
use Rattle.draid_heal.proofs.kept.count_rewritten.Goals as goal
use Rattle.draid_heal.proofs.kept.count_rewritten.Goals.{else-is_rewritten, then-is_rewritten}

pub loop-part-preserved : goal.loop-part-preserved
loop-part-preserved c =
    let was = c.loop-part.invariant in
    let low = was.low in
    let counted = was.counted in
    let parts = c.args.parts.now in
    let i = c.loop-part.part-index in
    elim c.if-is_rewritten.branch [
      | then-is_rewritten w ↦ (
          let one = one_counted parts i c.part-item.result c.loop-part-test.true c.part-item.is (sym c.is_rewritten.ensures ∙ w.if-is_rewritten.true) in
          let is = w.count-is in
          record { low = omega (arith, low, is); counted = omega (arith, one, is, counted) }
          )
      | else-is_rewritten w ↦ (
          let none = none_counted parts i c.part-item.result c.loop-part-test.true c.part-item.is (sym c.is_rewritten.ensures ∙ w.if-is_rewritten.false) in
          let is = w.count-is in
          record { low = omega (arith, low, is); counted = omega (arith, none, is, counted) }
          )
    ]

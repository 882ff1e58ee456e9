use Rattle.std.proofs.Common.{◌≡◌, suc, ◌+◌, ◌∙◌, ap, sym, arith}
use Rattle.draid_parity.specs.Columns.{present_below}
use Rattle.draid_parity.proofs.Missing.{present-missing}
use Rattle.draid_parity.proofs.solve.next_present.Goals as goal

pub loop-k-preserved : goal.loop-k-preserved
loop-k-preserved c =
    let k = c.loop-k.k-counter in
    let turn : k + 1 ≡ suc k = omega arith in
    ap (present_below c.args.missing.now) turn
    ∙ present-missing c.args.missing.now k (sym c.contains.ensures.value ∙ c.if-not-contains.false) ∙ c.loop-k.invariant

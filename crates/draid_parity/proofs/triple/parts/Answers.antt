use Rattle.draid_parity.proofs.TripleLemmas.{parts_solve}
use Rattle.draid_parity.proofs.triple.parts.Goals as goal

pub returns : goal.returns
returns g c = λ e f h s t u.
    let list = g.V.Rows.bytes in
    let triple = c.args.triple.now in
    parts_solve g.V.Rows.COUNT e f h triple.first triple.second triple.over_second triple.over_third triple.between
    (list c.args.p) (list c.args.q) (list c.args.r) (list c.times.result) (list c.plus-low.result) (list c.times-2.result) (list c.plus-high.result)
    (list c.times-3.result) (list c.plus.result) (list c.times-last.result) (list c.plus-2.result) (list c.times-second.result) (list c.times-third.result)
    (list c.plus-3.result) (list c.plus-4.result)
    c.times.ensures c.plus-low.ensures c.times-2.ensures c.plus-high.ensures c.times-3.ensures c.plus.ensures c.times-last.ensures
    c.plus-2.ensures c.times-second.ensures c.times-third.ensures c.plus-3.ensures c.plus-4.ensures s t u

use Rattle.draid_parity.proofs.PairLemmas.{times_one, times_over}
use Rattle.draid_parity.proofs.single.part.Goals as goal

pub returns-then-k-eq0 : goal.returns-then-k-eq0
returns-then-k-eq0 g c = λ s lanes bytes. times_one g.V.Rows.COUNT c.args.over.now (g.V.Rows.bytes c.args.rest) s (c.requires.plain c.if-k-eq0.true) bytes lanes

pub returns-else-k-eq0 : goal.returns-else-k-eq0
returns-else-k-eq0 g c = λ s lanes bytes. times_over g.V.Rows.COUNT c.args.over.now (g.V.Rows.bytes c.args.rest) (g.V.Rows.bytes c.times.result) s c.times.ensures lanes

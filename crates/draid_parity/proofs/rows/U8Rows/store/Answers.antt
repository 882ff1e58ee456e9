use Rattle.draid_parity.proofs.RowLemmas.{set_is_chunk}
use Rattle.draid_parity.proofs.rows.U8Rows.store.Goals as goal

pub returns : goal.returns
returns c = set_is_chunk c.args.to.now c.args.at c.args.self

use Rattle.draid_parity.proofs.RowLemmas.{chunk_bytes}
use Rattle.draid_parity.proofs.rows.U8x64Rows.load.Goals as goal

pub returns-clause-bytes : goal.returns-clause-bytes
returns-clause-bytes c = chunk_bytes c.args.at 64 c.args.from.now c.requires c.type_inv.from

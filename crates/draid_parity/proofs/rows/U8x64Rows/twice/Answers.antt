use Rattle.draid_parity.proofs.RowLemmas.{twice_lanes}
use Rattle.draid_parity.proofs.rows.U8x64Rows.twice.Goals as goal

pub returns : goal.returns
returns c = twice_lanes 64 c.args.self c.fits-self.0 c.fits-self.1

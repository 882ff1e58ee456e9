use Rattle.draid_parity.proofs.RowLemmas.{twice_lanes}
use Rattle.draid_parity.proofs.rows.U8x32Rows.twice.Goals as goal

pub returns : goal.returns
returns c = twice_lanes 32 c.args.self c.fits-self.0 c.fits-self.1

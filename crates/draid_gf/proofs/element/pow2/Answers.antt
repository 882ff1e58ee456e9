use Rattle.draid_gf.proofs.Powers.{table_power}
use Rattle.draid_gf.proofs.element.pow2.Goals as goal

pub returns : goal.returns
returns c = table_power c.args.e

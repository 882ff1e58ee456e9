use Rattle.draid_chain.proofs.Holders.{holder_no_column}
use Rattle.draid_chain.proofs.laws.holders_have_no_column.Goals as goal

pub returns : goal.returns
returns c = holder_no_column

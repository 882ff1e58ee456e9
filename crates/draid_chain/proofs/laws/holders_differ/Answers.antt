use Rattle.draid_chain.proofs.Holders.{holders_apart}
use Rattle.draid_chain.proofs.laws.holders_differ.Goals as goal

pub returns : goal.returns
returns c = holders_apart

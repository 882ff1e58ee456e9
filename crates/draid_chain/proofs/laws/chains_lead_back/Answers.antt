use Rattle.draid_chain.proofs.Holders.{holders_same}
use Rattle.draid_chain.proofs.laws.chains_lead_back.Goals as goal

pub returns : goal.returns
returns c = holders_same

use Rattle.draid_chain.proofs.Holders.{few_links, holder_ends, holder_free}
use Rattle.draid_chain.proofs.laws.chains_end.Goals as goal

pub returns-clause-chain : goal.returns-clause-chain
returns-clause-chain c = holder_ends

pub returns-clause-free : goal.returns-clause-free
returns-clause-free c = holder_free

pub returns-clause-links : goal.returns-clause-links
returns-clause-links c = few_links

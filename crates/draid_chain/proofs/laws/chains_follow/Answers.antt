use Rattle.draid_chain.proofs.Holders.{holder_alone, holder_follows, holder_stays}
use Rattle.draid_chain.proofs.Ends.{end_follows}
use Rattle.draid_chain.proofs.laws.chains_follow.Goals as goal

pub returns-clause-alone : goal.returns-clause-alone
returns-clause-alone c = holder_alone

pub returns-clause-stays : goal.returns-clause-stays
returns-clause-stays c = holder_stays

pub returns-clause-goes_on : goal.returns-clause-goes_on
returns-clause-goes_on c = holder_follows

pub returns-clause-further : goal.returns-clause-further
returns-clause-further c = end_follows

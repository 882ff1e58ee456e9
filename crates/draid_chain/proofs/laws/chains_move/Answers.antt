use Rattle.draid_chain.proofs.Exchanges.{holder_exchanged}
use Rattle.draid_chain.proofs.Holders.{holder_as_before, holder_moves}
use Rattle.draid_chain.proofs.laws.chains_move.Goals as goal

pub returns-clause-stay : goal.returns-clause-stay
returns-clause-stay c = holder_as_before

pub returns-clause-move_on : goal.returns-clause-move_on
returns-clause-move_on c = holder_moves

pub returns-clause-exchange : goal.returns-clause-exchange
returns-clause-exchange c = holder_exchanged

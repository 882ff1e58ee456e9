use Rattle.draid_chain.proofs.Holders.{holder_below}
use Rattle.draid_chain.proofs.laws.holders_are_slots.Goals as goal

pub returns : goal.returns
returns c = holder_below

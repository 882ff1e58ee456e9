use Rattle.draid_block.proofs.Fronts.{front_none}
use Rattle.draid_block.proofs.front.Front.new.Goals as goal

pub returns-clause-front : goal.returns-clause-front
returns-clause-front c = λ cut columns. front_none cut c.args.len columns c.new.result c.new.ensures

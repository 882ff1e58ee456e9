use Rattle.std.proofs.Common.{refl}
use Rattle.draid_record.proofs.Steps.{number_ok}
use Rattle.draid_record.proofs.block.blocks.Goals as goal

pub returns-clause-blocks : goal.returns-clause-blocks
returns-clause-blocks c = number_ok 4 _ _ _ _ _ _ _ _ _ (λ blocks. blocks.items) c.blocks_of.result refl c.most_held.ensures c.number-count.ensures.reads c.blocks_of.ensures.blocks

use Rattle.draid_stable.proofs.Lists.{arms_say, blocks_say}
use Rattle.draid_stable.proofs.laws.records_say_tables.Goals as goal

pub returns-clause-blocks : goal.returns-clause-blocks
returns-clause-blocks c = blocks_say

pub returns-clause-arms : goal.returns-clause-arms
returns-clause-arms c = arms_say

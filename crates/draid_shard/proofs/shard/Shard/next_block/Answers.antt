use Rattle.draid_shard.proofs.Over.{block_here, found_behind, none_found}
use Rattle.draid_shard.proofs.shard.Shard.next_block.Goals as goal

pub returns-in-Some-clause-some : goal.returns-in-Some-clause-some
returns-in-Some-clause-some g c w is_in = block_here c.args.self.now w is_in c.args.from c.args.upto c.in-Some.entry c.in-Some.ensures.some.over c.in-Some.ensures.some.block

pub returns-in-None-clause-some : goal.returns-in-None-clause-some
returns-in-None-clause-some g c w is_in =
    found_behind c.args.self.now w is_in c.args.from c.args.upto c.in-None.ensures.none c.block_from.result
    (λ p is. (c.requires.valid.tables.placed p.first _ is.there).run.some) c.block_from.ensures.some

pub returns-in-None-clause-none : goal.returns-in-None-clause-none
returns-in-None-clause-none g c w is_in = none_found c.args.self.now w is_in c.args.from c.args.upto c.in-None.ensures.none c.block_from.result c.block_from.ensures.none

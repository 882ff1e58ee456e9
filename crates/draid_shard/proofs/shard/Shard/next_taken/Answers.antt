use Rattle.draid_shard.proofs.Over.{if_none, next_behind, next_here, none_behind}
use Rattle.draid_shard.proofs.shard.Shard.next_taken.Goals as goal

pub returns-in-Some-clause-some : goal.returns-in-Some-clause-some
returns-in-Some-clause-some g c w is_in = next_here c.args.self.now w is_in c.args.from c.in-Some.field-0 c.in-Some.ensures.some

pub returns-in_err-entry-in-None-clause-none : goal.returns-in_err-entry-in-None-clause-none
returns-in_err-entry-in-None-clause-none g c w is_in =
    if_none c.from_residual.result _ (none_behind c.args.self.now w is_in c.args.from c.in-None.ensures.none c.in_err-entry-in-None.ensures.none)

pub returns-in_ok-entry-in-None-clause-some : goal.returns-in_ok-entry-in-None-clause-some
returns-in_ok-entry-in-None-clause-some g c w is_in =
    let e = c.in_ok-entry-in-None.entry in
    let at = c.in_ok-entry-in-None.ensures in
    next_behind c.args.self.now w is_in c.args.from c.in-None.ensures.none e (c.requires.valid.tables.placed e.pointer.first e at.there).run.some at.there at.from at.first

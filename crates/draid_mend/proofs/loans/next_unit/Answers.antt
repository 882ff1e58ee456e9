use Rattle.draid_shard.proofs.Over.{if_none}
use Rattle.draid_mend.proofs.Units.{none_left, unit_behind, unit_here}
use Rattle.draid_mend.proofs.loans.next_unit.Goals as goal

pub returns-in-Some-clause-some : goal.returns-in-Some-clause-some
returns-in-Some-clause-some g c = unit_here c.args.shard.now c.place_of-from.result c.place_of-from.ensures c.in-Some.entry c.in-Some.ensures.some

pub returns-in_err-entry-in-None-clause-none : goal.returns-in_err-entry-in-None-clause-none
returns-in_err-entry-in-None-clause-none g c w is p there =
    if_none c.from_residual.result _ (none_left c.args.shard.now c.place_of-from.result c.place_of-from.ensures c.in-None.ensures.none p there w is c.in_err-entry-in-None.ensures.none)

pub returns-in_ok-entry-in-None-clause-some : goal.returns-in_ok-entry-in-None-clause-some
returns-in_ok-entry-in-None-clause-some g c =
    let e = c.in_ok-entry-in-None.entry in
    let at = c.in_ok-entry-in-None.ensures in
    unit_behind c.args.shard.now c.place_of-from.result c.place_of-from.ensures c.in-None.ensures.none e (c.requires.valid.tables.placed e.pointer.first e at.there).run.some at.there at.from at.first

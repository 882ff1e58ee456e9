use Rattle.draid_visits.proofs.Over.{over, running_of}
use Rattle.draid_visits.proofs.Tables.{groups_ended, shares_arms}
use Rattle.draid_visits.proofs.steps.end_in.Goals as goal

pub returns-clause-table : goal.returns-clause-table
returns-clause-table g c = (let e = c.done.ensures in shares_arms c.args.shard.now c.done.new.shard e.ends.does.part e.keeps e.arms e.leaves)

pub returns-clause-groups : goal.returns-clause-groups
returns-clause-groups g c = (let e = c.done.ensures in groups_ended c.args.shard.now c.done.new.shard e.keeps e.arms e.leaves e.reserve)

pub returns-clause-goes : goal.returns-clause-goes
returns-clause-goes g c = λ part pieces x is.
    (let e = c.done.ensures in
    let z = running_of c.args.shard.now.pass c.requires.running in
    over g.R.Rack g.A.Area part pieces c.args.shard.now x is c.done.new.shard c.done.result c.min.result z.pass c.min.ensures z.there e.ends e.valid e.areas e.reserve)

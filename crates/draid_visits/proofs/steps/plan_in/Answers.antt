use Rattle.draid_visits.proofs.Started.{planned, refused}
use Rattle.draid_visits.proofs.Tables.{groups_left}
use Rattle.draid_visits.proofs.steps.plan_in.Goals as goal

pub returns-in-Ok-clause-closing : goal.returns-in-Ok-clause-closing
returns-in-Ok-clause-closing g c = c.plan.ensures.keeps.groups.closing

pub returns-in-Ok-clause-goes : goal.returns-in-Ok-clause-goes
returns-in-Ok-clause-goes g c = λ part pieces x is.
    (let e = c.in-Ok.ensures in planned g.R.Rack g.A.Area part pieces c.args.shard.now x is c.args.kind c.plan.new.shard e.valid e.event (e.acts pieces) e.kit e.reserve e.not_worn)

pub returns-in-Err-clause-closing : goal.returns-in-Err-clause-closing
returns-in-Err-clause-closing g c = c.plan.ensures.keeps.groups.closing

pub returns-in-Err-clause-goes : goal.returns-in-Err-clause-goes
returns-in-Err-clause-goes g c = λ part pieces x is.
    (let e = c.in-Err.ensures in refused g.R.Rack g.A.Area part pieces c.args.shard.now x is c.args.kind c.plan.new.shard c.in-Err.fault c.requires.none e.refused e.valid e.none.none e.kit e.reserve)

pub returns-in-Ok-clause-keeps : goal.returns-in-Ok-clause-keeps
returns-in-Ok-clause-keeps g c = c.plan.ensures.keeps

pub returns-in-Ok-clause-groups : goal.returns-in-Ok-clause-groups
returns-in-Ok-clause-groups g c = (let e = c.plan.ensures in groups_left c.args.shard.now c.plan.new.shard e.keeps e.arms e.reserve)

pub returns-in-Err-clause-keeps : goal.returns-in-Err-clause-keeps
returns-in-Err-clause-keeps g c = c.plan.ensures.keeps

pub returns-in-Err-clause-groups : goal.returns-in-Err-clause-groups
returns-in-Err-clause-groups g c = (let e = c.plan.ensures in groups_left c.args.shard.now c.plan.new.shard e.keeps e.arms e.reserve)

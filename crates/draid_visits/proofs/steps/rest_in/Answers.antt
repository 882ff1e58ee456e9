use Rattle.draid_pool.proofs.Drifting.{groups_kept}
use Rattle.draid_visits.proofs.ToLend.{only_none, only_running}
use Rattle.draid_visits.proofs.Over.{paused, runs_of}
use Rattle.draid_visits.proofs.steps.rest_in.Goals as goal

pub end_in-requires : goal.end_in-requires
end_in-requires g c = record { valid = c.requires.valid; running = runs_of c.args.kind c.args.shard.now.pass c.requires.running; left = c.has_more.ensures.none c.if-has_more.false }

pub returns-then-has_more-clause-goes : goal.returns-then-has_more-clause-goes
returns-then-has_more-clause-goes g c = λ part pieces x is. paused g.R.Rack g.A.Area part pieces c.args.shard.now x is c.args.kind (c.has_more.ensures.more c.if-has_more.true)

pub returns-then-has_more-clause-groups : goal.returns-then-has_more-clause-groups
returns-then-has_more-clause-groups g c = groups_kept c.args.shard.now

pub returns-then-has_more-clause-only : goal.returns-then-has_more-clause-only
returns-then-has_more-clause-only g c = only_running c.args.kind c.args.shard.now c.requires.running

pub returns-clause-only : goal.returns-clause-only
returns-clause-only g c = only_none c.args.kind c.end_in.new.shard c.end_in.ensures.over

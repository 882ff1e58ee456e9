use Rattle.std.proofs.Common.{refl}
use Rattle.draid_agent.specs.Policy.{PolicyReturns}
use Rattle.draid_pool.proofs.Rises.{rose_fails}
use Rattle.draid_run.proofs.Agents.{agent_breaks, agent_open, agent_shut}
use Rattle.draid_run.proofs.Steps.{is_whole}
use Rattle.draid_run.proofs.answer.ask_agent.Goals as goal

pub returns-in-Ok : goal.returns-in-Ok
returns-in-Ok g c = record {
  did = λ x stands.
      agent_open g.R.Rack g.A.Area (PolicyReturns g.P.Fn c.args.policy.now) c.args.least c.args.journal.now.entries c.reply_to_agent.new.journal.entries c.args.pool.now c.in-Some.pool c.reply_to_agent.new.pool c.in-Ok.reply c.in-Some.is c.in-Ok.ensures.whole
      c.in-Ok.ensures.same c.in-Ok.ensures.fits c.in-Ok.ensures.notes c.in-Ok.ensures.step x stands;
}

pub returns-in-Err : goal.returns-in-Err
returns-in-Err g c = record {
  did = λ x stands.
      agent_breaks g.R.Rack g.A.Area (PolicyReturns g.P.Fn c.args.policy.now) c.args.least c.args.journal.now.entries c.reply_to_agent.new.journal.entries c.args.pool.now c.in-Some.pool c.reply_to_agent.new.pool c.in-Some.is c.in-Err.ensures.whole
      c.in-Err.ensures.same (rose_fails g.A.Area.faults c.in-Some.pool c.reply_to_agent.new.pool (c.in-Err.ensures.cause refl)) _ c.in-Err.ensures.step x stands;
}

pub returns-in-None : goal.returns-in-None
returns-in-None g c = record {
  did = λ x stands.
      agent_shut g.R.Rack g.A.Area (PolicyReturns g.P.Fn c.args.policy.now) c.args.least c.args.journal.now.entries c.args.pool.now c.no_pool.result c.in-None.is c.no_pool.ensures x stands;
}

pub reply_to_agent-requires-clause-policy : goal.reply_to_agent-requires-clause-policy
reply_to_agent-requires-clause-policy g c = c.requires.policy

pub reply_to_agent-requires-clause-whole : goal.reply_to_agent-requires-clause-whole
reply_to_agent-requires-clause-whole g c = is_whole g.R.Rack g.A.Area c.args.pool.now c.in-Some.pool c.in-Some.is c.requires.desk

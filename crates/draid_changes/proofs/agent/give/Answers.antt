use Rattle.std.proofs.Common.{Bool, List, Result, Err, ap, subst}
use Rattle.draid_agent.specs.Policy.{PolicyReturns}
use Rattle.draid_shard.specs.declared.shard.Shard.{Shard}
use Rattle.draid_disks.specs.Checks.{IsLowestPass, NoPass}
use Rattle.draid_pool.specs.declared.fault.SyncFault.{SyncFault}
use Rattle.draid_pool.specs.declared.fault.SyncFault.TheVariants as sync
use Rattle.draid_pool.proofs.Rises.{areas_on}
use Rattle.draid_changes.specs.declared.agent.GiveFault.{GiveFault}
use Rattle.draid_changes.specs.declared.agent.GiveFault.TheVariants as fault
use Rattle.draid_changes.proofs.Repaired.{not_finished, pass_found, then_given}
use Rattle.draid_changes.proofs.agent.give.Goals as goal

abbrev why_of : Result Bool GiveFault → SyncFault
why_of (Err (fault.Stopped why)) = why
why_of result = sync.Worn

pub returns-in-Err-clause-cause : goal.returns-in-Err-clause-cause
returns-in-Err-clause-cause g c = λ is. c.in-Err.ensures.cause (ap Err (ap why_of is))

pub returns-in-Err-clause-carries : goal.returns-in-Err-clause-carries
returns-in-Err-clause-carries g c = λ x r.
    not_finished g.R.Rack g.A.Area (PolicyReturns g.P.Fn c.args.policy.now) c.args.least c.args.journal.now.entries c.finish.new.self x c.in-Err.why (c.in-Err.ensures.carries x r)

pub returns-in-Some-clause-carries : goal.returns-in-Some-clause-carries
returns-in-Some-clause-carries g c = λ x r.
    pass_found g.R.Rack g.A.Area (PolicyReturns g.P.Fn c.args.policy.now) c.args.least c.args.journal.now.entries c.finish.new.self x (c.in_default.ensures.carries x r) c.in_default.ensures.whole c.in-Some.metaslab c.in-Some.number
    (subst (λ (zs : List (Shard g.row.R.Denot g.row.A.Denot)). IsLowestPass zs c.in-Some.metaslab c.in-Some.number) c.deref.ensures.value c.in-Some.ensures.some)

pub give_due-requires-clause-passes : goal.give_due-requires-clause-passes
give_due-requires-clause-passes g c = subst (λ (zs : List (Shard g.row.R.Denot g.row.A.Denot)). NoPass zs) c.deref.ensures.value c.in_default-lowest_pass.ensures.none

pub returns-clause-later : goal.returns-clause-later
returns-clause-later g c = areas_on g.A.Area.faults c.args.pool.now c.finish.new.self c.give_due.new.pool c.in_default.ensures.later c.give_due.ensures.later

pub returns-clause-carries : goal.returns-clause-carries
returns-clause-carries g c = λ x r.
    then_given g.R.Rack g.A.Area (PolicyReturns g.P.Fn c.args.policy.now) c.args.least c.args.journal.now.entries c.finish.new.self x (c.in_default.ensures.carries x r) c.give_due.new.pool c.give_due.result
    c.give_due.new.journal.entries c.give_due.ensures.carries

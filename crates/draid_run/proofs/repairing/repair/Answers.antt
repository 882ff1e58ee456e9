use Rattle.std.proofs.Common.{◌∙◌, Ok, Err, ap}
use Rattle.draid_agent.specs.Policy.{PolicyReturns}
use Rattle.draid_session.specs.State.{State}
use Rattle.draid_pool.specs.Carries.{CarriesOut}
use Rattle.draid_pool.specs.Pools.{Represents}
use Rattle.draid_changes.specs.Agent.{GiveDoes}
use Rattle.draid_pool.specs.declared.fault.SyncFault.TheVariants as sync
use Rattle.draid_pool.proofs.Rises.{areas_on, rose_then}
use Rattle.draid_changes.specs.declared.agent.GiveFault.TheVariants as fault
use Rattle.draid_run.proofs.Repaired.{by_came, by_none, ended_same, refused_notes, repair_healed, repair_refused, repair_uncame, repair_unhealed, stopped_same}
use Rattle.draid_run.proofs.repairing.repair.Goals as goal

pub heal-requires : goal.heal-requires
heal-requires g c = record { whole = c.in-Ok-true.ensures.whole; idle = c.in-Ok-true.ensures.passes }

pub returns-in-Ok : goal.returns-in-Ok
returns-in-Ok g c =
    let e = c.in-Ok-true.ensures in
    let f = c.in-Ok.ensures in
    record {
      whole = f.whole;
      same = λ object. f.same object ∙ e.same object;
      later = areas_on g.A.Area.faults c.args.pool.now c.give.new.pool c.heal.new.pool e.later f.later;
      cause = λ is. absurd (cc is);
      entries = e.entries;
      carries = repair_healed g.R.Rack g.A.Area (PolicyReturns g.P.Fn c.args.policy.now) c.args.least c.args.journal.now.entries c.give.new.journal.entries c.args.pool.now c.give.new.pool c.heal.new.pool c.in-Ok.errors (by_came (λ b. (x : State) → Represents g.R.Rack g.A.Area c.args.pool.now x → CarriesOut g.R.Rack g.A.Area c.give.new.pool x (GiveDoes x (PolicyReturns g.P.Fn c.args.policy.now) c.args.least c.args.journal.now.entries (Ok b) c.give.new.journal.entries)) c.in-Ok-true.field-0 c.in-Ok-true.field-0-test e.carries) f.carries;
    }

pub returns-in-Err-heal : goal.returns-in-Err-heal
returns-in-Err-heal g c =
    let e = c.in-Ok-true.ensures in
    let f = c.in-Err-heal.ensures in
    record {
      whole = f.whole;
      same = λ object. f.same object ∙ e.same object;
      later = areas_on g.A.Area.faults c.args.pool.now c.give.new.pool c.heal.new.pool e.later f.later;
      cause = λ is. rose_then g.A.Area.faults c.args.pool.now c.give.new.pool c.heal.new.pool e.later (f.cause (ap Err (stopped_same c.in-Err-heal.why sync.Shelf is)));
      entries = e.entries;
      carries = repair_unhealed g.R.Rack g.A.Area (PolicyReturns g.P.Fn c.args.policy.now) c.args.least c.args.journal.now.entries c.give.new.journal.entries c.args.pool.now c.give.new.pool c.heal.new.pool c.in-Err-heal.why (by_came (λ b. (x : State) → Represents g.R.Rack g.A.Area c.args.pool.now x → CarriesOut g.R.Rack g.A.Area c.give.new.pool x (GiveDoes x (PolicyReturns g.P.Fn c.args.policy.now) c.args.least c.args.journal.now.entries (Ok b) c.give.new.journal.entries)) c.in-Ok-true.field-0 c.in-Ok-true.field-0-test e.carries) f.carries;
    }

pub returns-in-Ok-false : goal.returns-in-Ok-false
returns-in-Ok-false g c =
    let e = c.in-Ok-false.ensures in
    record {
      whole = e.whole;
      same = e.same;
      later = e.later;
      cause = λ is. absurd (cc is);
      entries = e.entries;
      carries = repair_uncame g.R.Rack g.A.Area (PolicyReturns g.P.Fn c.args.policy.now) c.args.least c.args.journal.now.entries c.give.new.journal.entries c.args.pool.now c.give.new.pool (by_none (λ b. (x : State) → Represents g.R.Rack g.A.Area c.args.pool.now x → CarriesOut g.R.Rack g.A.Area c.give.new.pool x (GiveDoes x (PolicyReturns g.P.Fn c.args.policy.now) c.args.least c.args.journal.now.entries (Ok b) c.give.new.journal.entries)) c.in-Ok-false.field-0 c.in-Ok-false.field-0-test e.carries);
    }

pub returns-in-Err : goal.returns-in-Err
returns-in-Err g c =
    let e = c.in-Err.ensures in
    record {
      whole = e.whole;
      same = e.same;
      later = e.later;
      cause = λ is. e.cause (ap Err (ended_same c.in-Err.fault (fault.Stopped sync.Shelf) is));
      entries = refused_notes c.in-Err.fault c.args.journal.now.entries c.give.new.journal.entries e.entries;
      carries = repair_refused g.R.Rack g.A.Area (PolicyReturns g.P.Fn c.args.policy.now) c.args.least c.args.journal.now.entries c.give.new.journal.entries c.args.pool.now c.give.new.pool c.in-Err.fault e.carries;
    }

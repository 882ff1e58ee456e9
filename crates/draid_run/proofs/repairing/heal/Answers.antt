use Rattle.std.proofs.Common.{◌∙◌, ℕ}
use Rattle.draid_pool.specs.declared.fault.SyncFault.TheVariants as sync
use Rattle.draid_pool.proofs.Refusing.{no_refusal}
use Rattle.draid_pool.proofs.Rises.{areas_on, err_on}
use Rattle.draid_reply.specs.declared.reply.AgentErrors.{AgentErrors}
use Rattle.draid_run.proofs.Repaired.{heal_ended, heal_unbuilt, heal_unscrubbed}
use Rattle.draid_run.proofs.repairing.heal.Goals as goal

pub scrub_all-requires : goal.scrub_all-requires
scrub_all-requires g c = record { whole = c.in-Ok.ensures.whole; idle = c.in-Ok.ensures.idle }

pub returns-in-Err : goal.returns-in-Err
returns-in-Err g c =
    let e = c.in-Err.ensures in
    record {
      whole = e.whole;
      same = e.same;
      later = e.later;
      cause = λ is. e.cause (err_on AgentErrors ℕ c.in-Err.why sync.Shelf is);
      carries = heal_unbuilt g.R.Rack g.A.Area c.args.pool.now c.rebuild_all.new.pool c.in-Err.why e.carries;
    }

pub returns-in-Ok-scrub_all : goal.returns-in-Ok-scrub_all
returns-in-Ok-scrub_all g c =
    let e = c.in-Ok.ensures in
    let f = c.in-Ok-scrub_all.ensures in
    record {
      whole = f.whole;
      same = λ object. f.same object ∙ e.same object;
      later = areas_on g.A.Area.faults c.args.pool.now c.rebuild_all.new.pool c.scrub_all.new.pool e.later f.later;
      cause = λ is. absurd (no_refusal is);
      carries = heal_ended g.R.Rack g.A.Area c.args.pool.now c.rebuild_all.new.pool c.scrub_all.new.pool (record { rebuild = c.in-Ok.errors; scrub = c.in-Ok-scrub_all.scrub }) e.carries f.carries;
    }

pub returns-in-Err-scrub_all : goal.returns-in-Err-scrub_all
returns-in-Err-scrub_all g c =
    let e = c.in-Ok.ensures in
    let f = c.in-Err-scrub_all.ensures in
    record {
      whole = f.whole;
      same = λ object. f.same object ∙ e.same object;
      later = areas_on g.A.Area.faults c.args.pool.now c.rebuild_all.new.pool c.scrub_all.new.pool e.later f.later;
      cause = λ is. absurd (f.not_shelf (err_on AgentErrors ℕ c.in-Err-scrub_all.why sync.Shelf is));
      carries = heal_unscrubbed g.R.Rack g.A.Area c.args.pool.now c.rebuild_all.new.pool c.scrub_all.new.pool c.in-Ok.errors c.in-Err-scrub_all.why e.carries f.carries;
    }

use Rattle.std.proofs.Common.{◌∙◌, Ok, Err, ap, refl, subst}
use Rattle.draid_pool.specs.declared.fault.SyncFault.TheVariants as sync
use Rattle.draid_pool.proofs.Steps.{by_answer}
use Rattle.draid_run.specs.Rebalancing.{RebalanceDoes, RebalanceIs}
use Rattle.draid_run.specs.declared.rebalancing.RebalanceFault.TheVariants as fault
use Rattle.draid_run.proofs.rebalancing.reply_to_rebalance.Goals as goal

pub returns-in-Ok : goal.returns-in-Ok
returns-in-Ok g c =
    let e = c.in-Ok.ensures in
    record {
      whole = e.whole;
      same = e.same;
      later = e.later;
      cause = λ failed. absurd (cc failed);
      fits = refl;
      step = λ x is.
          by_answer g.R.Rack g.A.Area (RebalanceDoes x c.args.slot) _ x c.rebalance.new.pool c.rebalance.result (Ok c.in-Ok.it) c.in-Ok.is (λ holds store w. (Ok c.in-Ok.it, refl, w)) (c.rebalance.ensures.carries x is);
      arms = e.arms;
      passes = e.passes;
    }

pub returns-in-Err-NoSuch : goal.returns-in-Err-NoSuch
returns-in-Err-NoSuch g c =
    let e = c.rebalance.ensures in
    record {
      whole = e.whole;
      same = e.same;
      later = e.later;
      cause = λ failed. absurd (cc failed);
      fits = refl;
      step = λ x is.
          by_answer g.R.Rack g.A.Area (RebalanceDoes x c.args.slot) _ x c.rebalance.new.pool c.rebalance.result (Err fault.NoSuch) (c.in-Err-NoSuch.is ∙ ap Err c.in-Err-NoSuch.field-0-is) (λ holds store w. (Err fault.NoSuch, refl, w))
          (e.carries x is);
      arms = tt;
      passes = tt;
    }

pub returns-in-Err-PassRunning : goal.returns-in-Err-PassRunning
returns-in-Err-PassRunning g c =
    let e = c.rebalance.ensures in
    let at = c.in-Err-PassRunning in
    let there = fault.PassRunning at.metaslab at.number in
    record {
      whole = e.whole;
      same = e.same;
      later = e.later;
      cause = λ failed. absurd (cc failed);
      fits = refl;
      step = λ x is.
          by_answer g.R.Rack g.A.Area (RebalanceDoes x c.args.slot) _ x c.rebalance.new.pool c.rebalance.result (Err there) (at.is ∙ ap Err at.field-0-is) (λ holds store w. (Err there, refl, w)) (e.carries x is);
      arms = tt;
      passes = (subst (λ r. RebalanceIs r c.args.pool.now c.rebalance.new.pool) (at.is ∙ ap Err at.field-0-is) e.passes).1;
    }

pub returns-in-Worn : goal.returns-in-Worn
returns-in-Worn g c =
    let e = c.rebalance.ensures in
    record {
      whole = e.whole;
      same = e.same;
      later = e.later;
      cause = λ failed. absurd (cc failed);
      fits = refl;
      step = λ x is.
          by_answer g.R.Rack g.A.Area (RebalanceDoes x c.args.slot) _ x c.rebalance.new.pool c.rebalance.result (Err (fault.Stopped sync.Worn)) (c.in-Err-Stopped.is ∙ ap Err (c.in-Err-Stopped.field-0-is ∙ ap fault.Stopped c.in-Worn.is))
          (λ holds store w. (Err (fault.Stopped sync.Worn), refl, w)) (e.carries x is);
      arms = tt;
      passes = tt;
    }

pub returns-in-Last : goal.returns-in-Last
returns-in-Last g c =
    let e = c.rebalance.ensures in
    record {
      whole = e.whole;
      same = e.same;
      later = e.later;
      cause = λ failed. absurd (cc failed);
      fits = refl;
      step = λ x is.
          by_answer g.R.Rack g.A.Area (RebalanceDoes x c.args.slot) _ x c.rebalance.new.pool c.rebalance.result (Err (fault.Stopped sync.Last)) (c.in-Err-Stopped.is ∙ ap Err (c.in-Err-Stopped.field-0-is ∙ ap fault.Stopped c.in-Last.is))
          (λ holds store w. (Err (fault.Stopped sync.Last), refl, w)) (e.carries x is);
      arms = tt;
      passes = tt;
    }

pub returns-in-NoMemory : goal.returns-in-NoMemory
returns-in-NoMemory g c =
    let e = c.rebalance.ensures in
    record {
      whole = e.whole;
      same = e.same;
      later = e.later;
      cause = λ failed. absurd (cc failed);
      fits = tt;
      step = λ x is.
          by_answer g.R.Rack g.A.Area (RebalanceDoes x c.args.slot) _ x c.rebalance.new.pool c.rebalance.result (Err (fault.Stopped sync.NoMemory)) (c.in-Err-Stopped.is ∙ ap Err (c.in-Err-Stopped.field-0-is ∙ ap fault.Stopped c.in-NoMemory.is))
          (λ holds store w. (Err (fault.Stopped sync.NoMemory), refl, w)) (e.carries x is);
      arms = tt;
      passes = tt;
    }

pub returns-in-Shelf : goal.returns-in-Shelf
returns-in-Shelf g c =
    let e = c.rebalance.ensures in
    let why = c.in-Err-Stopped.is ∙ ap Err (c.in-Err-Stopped.field-0-is ∙ ap fault.Stopped c.in-Shelf.is) in
    record {
      whole = e.whole;
      same = e.same;
      later = e.later;
      cause = λ failed. e.cause why;
      fits = tt;
      step = λ x is.
          by_answer g.R.Rack g.A.Area (RebalanceDoes x c.args.slot) _ x c.rebalance.new.pool c.rebalance.result (Err (fault.Stopped sync.Shelf)) why (λ holds store w. (Err (fault.Stopped sync.Shelf), tt, w)) (e.carries x is);
      arms = tt;
      passes = tt;
    }

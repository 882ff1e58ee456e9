use Rattle.std.proofs.Common.{Err, ap, refl}
use Rattle.draid_pool.proofs.Rises.{areas_still}
use Rattle.draid_run.proofs.Balanced.{halt_of, no_slot, rebalance_stops, rebalanced, rebuild_there}
use Rattle.draid_run.proofs.rebalancing.rebalance.Goals as goal

pub returns-then-slot-pool : goal.returns-then-slot-pool
returns-then-slot-pool g c =
    let pool = c.args.pool.now in
    record {
      whole = c.requires.whole;
      same = λ object. refl;
      later = areas_still g.A.Area.faults pool;
      cause = λ is. absurd (cc is);
      carries = λ x is. no_slot g.R.Rack g.A.Area c.args.slot pool x is c.if-slot-pool.true;
      passes = refl;
      arms = tt;
    }

pub returns-in-Some : goal.returns-in-Some
returns-in-Some g c =
    let pool = c.args.pool.now in
    let found = c.in-Some.ensures.found in
    let test = c.if-slot-pool.false in
    record {
      whole = c.requires.whole;
      same = λ object. refl;
      later = areas_still g.A.Area.faults pool;
      cause = λ is. absurd (cc is);
      carries = λ x is. rebuild_there g.R.Rack g.A.Area c.args.slot pool pool x is test c.in-Some.metaslab c.in-Some.number found;
      passes = (refl, found);
      arms = tt;
    }

pub sync_then-requires : goal.sync_then-requires
sync_then-requires g c = record { whole = c.requires.whole; slot = c.if-slot-pool.false; alone = c.in_default.ensures.none }

pub returns-in-Ok : goal.returns-in-Ok
returns-in-Ok g c =
    let pool = c.args.pool.now in
    let new = c.sync_then.new.pool in
    let e = c.in-Ok.ensures in
    record {
      whole = e.whole;
      same = e.same;
      later = e.later;
      cause = λ is. absurd (cc is);
      carries = λ x is. rebalanced g.R.Rack g.A.Area c.args.slot pool new x is c.if-slot-pool.false c.in_default.ensures.none c.in-Ok.it (e.carries x is);
      passes = e.passes;
      arms = e.arms;
    }

pub returns-in-Err : goal.returns-in-Err
returns-in-Err g c =
    let pool = c.args.pool.now in
    let new = c.sync_then.new.pool in
    let e = c.in-Err.ensures in
    record {
      whole = e.whole;
      same = e.same;
      later = e.later;
      cause = λ is. e.cause (ap Err (halt_of c.in-Err.why is));
      carries = λ x is. rebalance_stops g.R.Rack g.A.Area c.args.slot pool new x is c.if-slot-pool.false c.in_default.ensures.none c.in-Err.why (e.carries x is);
      passes = tt;
      arms = tt;
    }

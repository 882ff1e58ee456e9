use Rattle.std.proofs.Common.{ℕ, arith, refl}
use Rattle.draid_export.specs.Exporting.{IsSafe}
use Rattle.draid_pool.specs.declared.fault.SyncFault.TheVariants as sync
use Rattle.draid_pool.specs.declared.fault.Synced.{Synced}
use Rattle.draid_pool.proofs.Keeping.{all_arms_by, all_asked_by, all_stay, passes_by, racks_by}
use Rattle.draid_pool.proofs.Rises.{err_on, areas_still}
use Rattle.draid_export.proofs.Exports.{export_done, export_none, export_stops, not_told}
use Rattle.draid_pool.proofs.Refusing.{no_refusal}
use Rattle.draid_export.proofs.syncing.sync_for_export.Goals as goal

pub returns-then-is_safe : goal.returns-then-is_safe
returns-then-is_safe g c =
    record {
      whole = c.requires.whole;
      same = λ o. refl;
      later = areas_still g.A.Area.faults c.args.pool.now;
      passes = passes_by g.R.Rack.faults c.args.pool.now c.args.pool.now (all_stay g.R.Rack.faults c.args.pool.now c.args.pool.now refl);
      racks = racks_by g.R.Rack.faults c.args.pool.now c.args.pool.now (all_stay g.R.Rack.faults c.args.pool.now c.args.pool.now refl);
      arms = all_arms_by g.R.Rack.faults c.args.pool.now c.args.pool.now (all_stay g.R.Rack.faults c.args.pool.now c.args.pool.now refl);
      asked = all_asked_by g.R.Rack.faults c.args.pool.now c.args.pool.now (all_stay g.R.Rack.faults c.args.pool.now c.args.pool.now refl);
      names = c.committed.ensures.group;
      grows = (omega arith);
      cause = λ is. absurd (no_refusal is);
      carries = λ x is. export_none g.R.Rack g.A.Area c.args.pool.now x c.committed.result is ((c.is_safe.ensures.safe x is).0 c.if-is_safe.true) c.committed.ensures.group;
    }

pub returns-in-Ok : goal.returns-in-Ok
returns-in-Ok g c =
    record {
      whole = c.in-Ok.ensures.whole;
      same = c.in-Ok.ensures.same;
      later = c.in-Ok.ensures.later;
      passes = c.in-Ok.ensures.passes;
      racks = c.in-Ok.ensures.racks;
      arms = c.in-Ok.ensures.arms;
      asked = c.in-Ok.ensures.asked;
      names = c.in-Ok.ensures.names;
      grows = (let rises = c.in-Ok.ensures.rises in omega (arith, rises));
      cause = λ is. absurd (no_refusal is);
      carries = λ x is. export_done g.R.Rack g.A.Area c.args.pool.now c.sync.new.self x c.in-Ok.synced is (not_told c.is_safe.result (IsSafe x) (c.is_safe.ensures.safe x is) c.if-is_safe.false)
          (c.in-Ok.ensures.carries x is);
    }

pub returns-in-Err : goal.returns-in-Err
returns-in-Err g c =
    record {
      whole = c.in-Err.ensures.whole;
      same = c.in-Err.ensures.same;
      later = c.in-Err.ensures.later;
      passes = c.in-Err.ensures.passes;
      racks = c.in-Err.ensures.racks;
      arms = c.in-Err.ensures.arms;
      asked = c.in-Err.ensures.asked;
      names = tt;
      grows = tt;
      cause = λ is. c.in-Err.ensures.cause (err_on ℕ Synced c.in-Err.fault sync.Shelf is);
      carries = λ x is. export_stops g.R.Rack g.A.Area c.args.pool.now c.sync.new.self x c.in-Err.fault is (not_told c.is_safe.result (IsSafe x) (c.is_safe.ensures.safe x is) c.if-is_safe.false)
          (c.in-Err.ensures.carries x is);
    }

use Rattle.std.proofs.Common.{◌<◌, ◌∙◌, subst, sym}
use Rattle.draid_spec.specs.declared.layout.Geometry.{Geometry}
use Rattle.draid_pool.specs.declared.fault.SyncFault.TheVariants as sync
use Rattle.draid_pool.specs.declared.fault.Synced.{Synced}
use Rattle.draid_pool.proofs.Rises.{areas_on, err_on, rose_then}
use Rattle.draid_run.specs.declared.rebalancing.Rebalanced.{Rebalanced}
use Rattle.draid_run.proofs.Balanced.{geometry_synced, only_synced, sync_goes, sync_stops}
use Rattle.draid_run.proofs.rebalancing.sync_then.Goals as goal

pub scrub_then-requires : goal.scrub_then-requires
scrub_then-requires g c =
    let old = c.args.pool.now in
    let mid = c.sync.new.self in
    let e = c.in-Ok.ensures in
    record {
      whole = e.whole;
      slot = subst (λ (z : Geometry). c.args.slot < z.spec.children) (sym (geometry_synced g.R.Rack g.A.Area old mid c.requires.whole e.whole e.arms)) c.requires.slot;
      alone = only_synced old mid e.passes c.requires.alone;
      idle = e.idle;
    }

pub returns-in-Ok : goal.returns-in-Ok
returns-in-Ok g c =
    let old = c.args.pool.now in
    let mid = c.sync.new.self in
    let new = c.scrub_then.new.pool in
    let e = c.in-Ok.ensures in
    let f = c.scrub_then.ensures in
    record {
      whole = f.whole;
      same = λ object. f.same object ∙ e.same object;
      later = areas_on g.A.Area.faults old mid new e.later f.later;
      cause = λ is. rose_then g.A.Area.faults old mid new e.later (f.cause is);
      carries = sync_goes g.R.Rack g.A.Area c.args.slot old mid new c.in-Ok.field-0 c.scrub_then.result e.carries f.carries;
      passes = f.passes;
      arms = f.arms;
    }

pub returns-in-Err : goal.returns-in-Err
returns-in-Err g c =
    let e = c.in-Err.ensures in
    record {
      whole = e.whole;
      same = e.same;
      later = e.later;
      cause = λ is. e.cause (err_on Rebalanced Synced c.in-Err.why sync.Shelf is);
      carries = sync_stops g.R.Rack g.A.Area c.args.slot c.args.pool.now c.sync.new.self c.in-Err.why e.carries;
      passes = tt;
      arms = tt;
    }

use Rattle.std.proofs.Common.{Err, ap}
use Rattle.draid_pool.proofs.Refusing.{no_refusal}
use Rattle.draid_run.proofs.Repaired.{no_scrub_there, rebuild_ended, rebuild_idle, rebuild_other, rebuilt_whole, shelf_ended}
use Rattle.draid_run.proofs.repairing.rebuild_all.Goals as goal

pub ended_by-requires : goal.ended_by-requires
ended_by-requires g c = no_scrub_there c.in-Err.fault c.args.pool.now c.rebuild.new.pool c.requires.idle c.in-Err.ensures.passes

pub returns-in-Ok : goal.returns-in-Ok
returns-in-Ok g c =
    let e = c.in-Ok.ensures in
    record {
      whole = e.whole;
      same = e.same;
      later = e.later;
      cause = λ is. absurd (no_refusal is);
      idle = rebuilt_whole c.in-Ok.mended c.rebuild.new.pool e.within e.passes;
      carries = rebuild_ended g.R.Rack g.A.Area c.args.pool.now c.rebuild.new.pool c.in-Ok.mended e.within e.carries;
    }

pub returns-in-Err : goal.returns-in-Err
returns-in-Err g c =
    let e = c.in-Err.ensures in
    record {
      whole = e.whole;
      same = e.same;
      later = e.later;
      cause = λ is. e.cause (ap Err (shelf_ended c.in-Err.fault c.ended_by.result c.ended_by.ensures is));
      idle = rebuild_idle c.in-Err.fault c.ended_by.result c.args.pool.now c.rebuild.new.pool c.ended_by.ensures e.passes;
      carries = rebuild_other g.R.Rack g.A.Area c.args.pool.now c.rebuild.new.pool c.in-Err.fault c.ended_by.result c.ended_by.ensures e.carries;
    }

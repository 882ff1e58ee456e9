use Rattle.draid_pool.specs.declared.fault.SyncFault.TheVariants as sync
use Rattle.draid_run.proofs.Repaired.{scrub_ended, refused_same, scrub_halted, scrub_no_shelf, scrub_stop}
use Rattle.draid_run.proofs.repairing.scrub_all.Goals as goal

pub stop_of-requires : goal.stop_of-requires
stop_of-requires g c = scrub_stop c.in-Err.fault c.args.pool.now c.scrub.new.pool c.requires.idle c.in-Err.ensures.passes

pub returns-in-Ok : goal.returns-in-Ok
returns-in-Ok g c =
    let e = c.in-Ok.ensures in
    record {
      whole = e.whole;
      same = e.same;
      later = e.later;
      not_shelf = λ is. cc is;
      carries = scrub_ended g.R.Rack g.A.Area c.args.pool.now c.scrub.new.pool c.in-Ok.mended e.within e.carries;
    }

pub returns-in-Err : goal.returns-in-Err
returns-in-Err g c =
    let e = c.in-Err.ensures in
    record {
      whole = e.whole;
      same = e.same;
      later = e.later;
      not_shelf = λ is. scrub_no_shelf c.stop_of.result c.in-Err.fault c.args.pool.now c.scrub.new.pool c.stop_of.ensures e.passes (refused_same c.stop_of.result sync.Shelf is);
      carries = scrub_halted g.R.Rack g.A.Area c.args.pool.now c.scrub.new.pool c.stop_of.result c.in-Err.fault c.stop_of.ensures e.carries;
    }

use Rattle.std.proofs.Common.{false}
use Rattle.draid_session.specs.Points.{HasLateMark}
use Rattle.draid_export.specs.Exporting.{HasUnsynced}
use Rattle.draid_export.proofs.Exports.{late_of, neither_of, one_of}
use Rattle.draid_export.proofs.syncing.is_safe.Goals as goal

pub returns-then-has_unsynced : goal.returns-then-has_unsynced
returns-then-has_unsynced g c = record {
  safe = λ x is. one_of c.has_unsynced.result false (HasUnsynced x) (HasLateMark x.committed x.store.marks) (c.has_unsynced.ensures.unsynced x is) c.if-has_unsynced.true;
}

pub returns : goal.returns
returns g c = record {
  safe = λ x is. neither_of c.has_unsynced.result c.has_news.result (HasUnsynced x) (HasLateMark x.committed x.store.marks) (c.has_unsynced.ensures.unsynced x is)
      (late_of g.R.Rack g.A.Area c.args.pool.now x c.has_news.result is c.has_news.ensures) c.if-has_unsynced.false;
}

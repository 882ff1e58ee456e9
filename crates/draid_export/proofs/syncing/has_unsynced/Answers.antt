use Rattle.draid_export.proofs.Searches.{found_unsynced}
use Rattle.draid_export.proofs.Exports.{unsynced_of}
use Rattle.draid_export.proofs.syncing.has_unsynced.Goals as goal

pub returns : goal.returns
returns g c =
    let old = c.args.pool.now in
    let found = found_unsynced c.deref.result.now old.metaslabs.shards.items c.any_unsynced.result c.deref.ensures.value c.any_unsynced.ensures in
    record { found = found; unsynced = λ x is. unsynced_of g.R.Rack g.A.Area old x c.any_unsynced.result is found }

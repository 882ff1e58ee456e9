use Rattle.std.proofs.Common.{refl}
use Rattle.draid_pool.proofs.GroupClosed.{each_whole, with_owned}
use Rattle.draid_pool.proofs.Wholes.{few_geometry, same_pointers}
use Rattle.draid_shard.specs.Fits.{Valid}
use Rattle.draid_visits.proofs.OwnedCancel.{cancel_all}
use Rattle.draid_visits.proofs.cancelling.cancel.Goals as goal

pub cancel_each-requires : goal.cancel_each-requires
cancel_each-requires g c =
    let pool = c.args.pool.now in
    let w = c.requires.whole in
    record { fits = tt; few = few_geometry g.R.Rack g.A.Area pool w; own = refl; valid = each_whole g.R.Rack g.A.Area pool (Valid g.R.Rack) w (λ m shard there. (w.shards m shard there).valid) }

pub returns : goal.returns
returns g c =
    let old = c.args.pool.now in
    let new = with_owned old c.cancel_each.new.metaslabs in
    let z = cancel_all g.R.Rack g.A.Area old c.cancel_each.result c.cancel_each.new.metaslabs c.requires.whole c.cancel_each.ensures.cancels in
    record { whole = z.whole; same = same_pointers old new refl; later = z.later; carries = z.carries; passes = z.none }

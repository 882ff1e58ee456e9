use Rattle.draid_visits.proofs.CancelHolds.{cancels_none, cancels_one, is_absent, is_one}
use Rattle.draid_visits.proofs.holding.cancel_in.Goals as goal

pub returns-then-is_none : goal.returns-then-is_none
returns-then-is_none g c = cancels_none g.R.Rack g.A.Area c.args.shard.now c.requires (is_absent c.args.shard.now.pass c.is_none.result c.is_none.ensures c.if-is_none.true)

pub returns : goal.returns
returns g c =
    let e = c.cancel.ensures in
    cancels_one g.R.Rack g.A.Area c.args.shard.now c.cancel.new.shard e.valid e.event e.acts e.kit e.keeps e.slots e.reserve e.none (is_one c.args.shard.now.pass c.is_none.result c.is_none.ensures c.if-is_none.false)

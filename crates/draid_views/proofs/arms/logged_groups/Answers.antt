use Rattle.std.proofs.Common.{arith, refl, length}
use Rattle.std.proofs.lemmas.Option.{slice_get_read}
use Rattle.draid_machine.specs.Names.{named}
use Rattle.draid_views.proofs.ArmsTold.{sums_all, sums_more, sums_none}
use Rattle.draid_views.proofs.arms.logged_groups.Goals as goal

pub loop-shard-init : goal.loop-shard-init
loop-shard-init g c = sums_none c.args.shards.now (named c.args.arm.kind c.args.arm.number)

pub overflow_add-logged : goal.overflow_add-logged
overflow_add-logged g c =
    let low = c.loop-shard.invariant.low in
    let few = c.requires in
    let below = c.loop-shard-test.true in
    let count = c.logged_in-logged.ensures.low in
    omega (arith, low, few, below, count)

pub loop-shard-preserved : goal.loop-shard-preserved
loop-shard-preserved g c =
    let there = slice_get_read c.args.shards.now (length c.args.shards.now) c.loop-shard.shard-index c.shard-item.result refl c.loop-shard-test.true c.shard-item.is in
    sums_more c.args.shards.now c.args.arm c.loop-shard.shard-index c.loop-shard.logged c.logged_in-logged.result c.shard-item.result there c.logged_in-logged.ensures.count c.logged_in-logged.ensures.low c.loop-shard.invariant

pub returns : goal.returns
returns g c = sums_all c.args.shards.now (named c.args.arm.kind c.args.arm.number) c.loop-shard.shard-index c.loop-shard.logged (let end = c.loop-shard-test.false in omega (arith, end)) c.loop-shard.invariant

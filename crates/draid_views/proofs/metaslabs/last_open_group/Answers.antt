use Rattle.std.proofs.Common.{◌+◌, ◌∙◌, arith, ap, refl, subst, sym, length}
use Rattle.std.specs.Ordering.{nat_cmp, ord_max}
use Rattle.std.proofs.lemmas.Option.{slice_get_read}
use Rattle.draid_views.proofs.Stripes.{GreatestUpto, greatest_all, greatest_more, greatest_none, max_is}
use Rattle.draid_views.proofs.metaslabs.last_open_group.Goals as goal

pub loop-shard-init : goal.loop-shard-init
loop-shard-init g c = greatest_none c.args.shards.now

pub loop-shard-preserved : goal.loop-shard-preserved
loop-shard-preserved g c =
    let there = slice_get_read c.args.shards.now (length c.args.shards.now) c.loop-shard.shard-index c.shard-item.result refl c.loop-shard-test.true c.shard-item.is in
    let more = greatest_more c.args.shards.now c.loop-shard.shard-index c.loop-shard.group c.shard-item.result there c.loop-shard.invariant in
    let same = sym (c.max-group.ensures ∙ ap (λ n. ord_max nat_cmp c.loop-shard.group n) c.open_group.ensures ∙ max_is c.loop-shard.group c.shard-item.result.open_group) in
    subst (GreatestUpto c.args.shards.now (c.loop-shard.shard-index + 1)) same more

pub returns : goal.returns
returns g c = greatest_all c.args.shards.now c.loop-shard.shard-index c.loop-shard.group c.requires.some (let end = c.loop-shard-test.false in omega (arith, end)) c.loop-shard.invariant

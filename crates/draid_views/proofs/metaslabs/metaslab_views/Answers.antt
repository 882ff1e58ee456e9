use Rattle.std.proofs.Common.{rules, ◌+◌, List, arith, subst, sym, take}
use Rattle.std.specs.List.{AllZip}
use Rattle.draid_report.specs.declared.view.MetaslabView.{MetaslabView}
use Rattle.draid_shard.specs.Fits.{Valid}
use Rattle.draid_views.specs.Views.{IsToldOf}
use Rattle.draid_views.proofs.Zips.{zip_all, zip_more, zip_none}
use Rattle.draid_views.proofs.metaslabs.metaslab_views.Goals as goal

pub loop-shard-init : goal.loop-shard-init
loop-shard-init g c = zip_none IsToldOf c.args.shards.now c.new-views.result.items (search rules)

pub metaslab_view-requires : goal.metaslab_view-requires
metaslab_view-requires g c = record { valid = subst (Valid g.R.Rack) (sym c.shard-item.is) (c.requires c.loop-shard.shard-index c.shard-item.result c.loop-shard-test.true) }

pub returns : goal.returns
returns g c = zip_all IsToldOf c.args.shards.now c.loop-shard.shard-index c.loop-shard.views.items (let end = c.loop-shard-test.false in omega (arith, end)) c.loop-shard.invariant

pub loop-shard-preserved : goal.loop-shard-preserved
loop-shard-preserved g c =
    subst (λ (views : List MetaslabView). AllZip IsToldOf (take (c.loop-shard.shard-index + 1) c.args.shards.now) views) (sym c.in_ok-push.ensures.items)
    (zip_more IsToldOf c.args.shards.now c.loop-shard.shard-index c.loop-shard.views.items c.shard-item.result c.metaslab_view.result c.loop-shard-test.true c.shard-item.is c.metaslab_view.ensures c.loop-shard.invariant)

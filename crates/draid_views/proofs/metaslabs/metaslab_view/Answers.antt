use Rattle.draid_views.proofs.Stripes.{free_is, pass_is}
use Rattle.draid_views.proofs.metaslabs.metaslab_view.Goals as goal

pub returns : goal.returns
returns g c = record {
  free = λ v at. free_is g.R.Rack c.args.shard.now c.requires.valid v c.free_stripes.result at c.free_stripes.ensures;
  blocks = c.live_blocks.ensures;
  pass = λ v at. pass_is c.args.shard.now v c.pass_view.result at c.pass_view.ensures;
}

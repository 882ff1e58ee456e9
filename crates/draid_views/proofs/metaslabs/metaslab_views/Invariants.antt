use Rattle.std.proofs.Common.{take}
use Rattle.std.specs.List.{AllZip}
use Rattle.draid_views.specs.Views.{IsToldOf}
use Rattle.draid_views.proofs.metaslabs.metaslab_views.Given as goal

abbrev pub invariant-loop-shard : goal.invariant-loop-shard
invariant-loop-shard g l = AllZip IsToldOf (take l.shard-index l.shards) l.views.items

use Rattle.draid_machine.specs.Names.{named}
use Rattle.draid_views.proofs.ArmsTold.{SumsUpto}
use Rattle.draid_views.proofs.arms.logged_groups.Given as goal

abbrev pub invariant-loop-shard : goal.invariant-loop-shard
invariant-loop-shard g l = SumsUpto l.shards (named l.arm.kind l.arm.number) l.shard-index l.logged

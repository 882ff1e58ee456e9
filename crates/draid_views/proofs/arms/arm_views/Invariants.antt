use Rattle.std.proofs.Common.{take}
use Rattle.draid_views.specs.Views.{AreArmsTold}
use Rattle.draid_views.proofs.arms.arm_views.Given as goal

abbrev pub invariant-loop-arm : goal.invariant-loop-arm
invariant-loop-arm g l = AreArmsTold l.geometry l.shards (take l.arm-index l.arms) l.views.items

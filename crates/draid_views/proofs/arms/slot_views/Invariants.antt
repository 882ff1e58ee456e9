use Rattle.draid_views.specs.Views.{AreSlotsTold}
use Rattle.draid_views.proofs.arms.slot_views.Given as goal

abbrev pub invariant-loop-slot : goal.invariant-loop-slot
invariant-loop-slot g l = AreSlotsTold l.geometry l.shards l.slots l.slot l.views.items

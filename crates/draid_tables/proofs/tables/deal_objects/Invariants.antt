use Rattle.std.proofs.Common.{nat_eq}
use Rattle.std.specs.HashMap.{get}
use Rattle.draid_tables.proofs.Dealing.{Deals}
use Rattle.draid_tables.proofs.tables.deal_objects.Given as goal

abbrev pub invariant-loop-object : goal.invariant-loop-object
invariant-loop-object l = Deals l.numbers (get nat_eq l.objects) (get nat_eq l.dealt) l.object-iterator

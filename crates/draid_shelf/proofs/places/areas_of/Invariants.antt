use Rattle.std.specs.Prelude.{is_some}
use Rattle.draid_shelf.specs.Memory.{AreEmpty, list_at}
use Rattle.draid_shelf.proofs.places.areas_of.Given as goal

abbrev pub invariant-loop-metaslab : goal.invariant-loop-metaslab
invariant-loop-metaslab l = AreEmpty (list_at l.lists) (is_some l.fuse) l.metaslab l.areas

use Rattle.std.specs.Prelude.{[]}
use Rattle.draid_changes.specs.Dues.{AreFree, IsIdleIn}
use Rattle.draid_changes.proofs.dues.free_spares.Given as goal

abbrev pub invariant-loop-spare : goal.invariant-loop-spare
invariant-loop-spare l = AreFree (IsIdleIn l.slots) [] l.spare l.free.items

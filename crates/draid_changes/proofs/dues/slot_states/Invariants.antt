use Rattle.std.proofs.Common.{◌≡◌}
use Rattle.draid_changes.specs.Dues.{shown_from}
use Rattle.draid_changes.proofs.dues.slot_states.Given as goal

abbrev pub invariant-loop-slot : goal.invariant-loop-slot
invariant-loop-slot g l = l.states.items ≡ shown_from l.slots l.shards 0 l.slot

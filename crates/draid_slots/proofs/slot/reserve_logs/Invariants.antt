use Rattle.std.proofs.Common.{◌≡◌}
use Rattle.std.specs.Prelude.{vec_capacity}
use Rattle.draid_slots.specs.Changes.{AreGrown}
use Rattle.draid_slots.proofs.slot.reserve_logs.Given as goal

abbrev pub invariant-loop-at : goal.invariant-loop-at
invariant-loop-at l = AreGrown l.fn.logs.items l.logs.items l.at l.changes × (vec_capacity l.logs ≡ vec_capacity l.fn.logs)

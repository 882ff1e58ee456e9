use Rattle.std.proofs.Common.{◌≡◌, ◌≤◌, ℕ, length}
use Rattle.draid_world.specs.World.{names_at}
use Rattle.draid_arms.proofs.slots.widen.Given as goal

abbrev pub invariant-loop-number : goal.invariant-loop-number
invariant-loop-number l = (l._number ≤ length l.order.items) × ((c : ℕ) → names_at l.order.items c ≡ names_at l.fn.order.items c)

use Rattle.std.proofs.Common.{◌≡◌, ◌<◌, ℕ, length}
use Rattle.draid_world.specs.World.{names_at}
use Rattle.draid_world.proofs.arms.copy_order.Given as goal

abbrev pub invariant-loop-at : goal.invariant-loop-at
invariant-loop-at l = (length l.copy.items ≡ l.at) × ((c : ℕ) → c < l.at → names_at l.copy.items c ≡ names_at l.order c)

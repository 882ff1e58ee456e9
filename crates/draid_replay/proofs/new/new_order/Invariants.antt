use Rattle.std.proofs.Common.{◌≡◌, ℕ, length}
use Rattle.draid_world.specs.World.{names_at}
use Rattle.draid_replay.specs.Creation.{leaf_in}
use Rattle.draid_replay.proofs.new.new_order.Given as goal

abbrev pub invariant-loop-slot : goal.invariant-loop-slot
invariant-loop-slot l = (length l.order.items ≡ l.slot) × ((c : ℕ) → names_at l.order.items c ≡ leaf_in l.slot c)

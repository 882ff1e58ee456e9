use Rattle.std.proofs.Common.{◌≡◌, ◌++◌, map, take, drop}
use Rattle.std.specs.Prelude.{vec_capacity}
use Rattle.draid_slots.specs.Changes.{switched_arm}
use Rattle.draid_slots.proofs.slot.switch.Given as goal

abbrev pub invariant-loop-at : goal.invariant-loop-at
invariant-loop-at l =
    (l.arms.items ≡ map (switched_arm l.leaf l.offline) (take l.at l.fn.arms.items) ++ drop l.at l.fn.arms.items)
    × (vec_capacity l.arms ≡ vec_capacity l.fn.arms)

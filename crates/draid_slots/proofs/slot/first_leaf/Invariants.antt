use Rattle.std.proofs.Common.{◌≡◌, drop, true}
use Rattle.draid_slots.specs.Reading as reading
use Rattle.draid_slots.specs.Table as table
use Rattle.draid_slots.proofs.slot.first_leaf.Given as goal

abbrev pub invariant-loop-arm : goal.invariant-loop-arm
invariant-loop-arm l =
    (reading.first_leaf (drop l.arm-index l.arms) ≡ reading.first_leaf l.arms) × (table.has_leaf (drop l.arm-index l.arms) ≡ true)

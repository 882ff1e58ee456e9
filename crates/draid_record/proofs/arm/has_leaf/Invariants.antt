use Rattle.std.proofs.Common.{◌≡◌, drop}
use Rattle.draid_record.specs.Record.{has_leaf, told_slot}
use Rattle.draid_record.proofs.arm.has_leaf.Given as goal

abbrev pub invariant-loop-arm : goal.invariant-loop-arm
invariant-loop-arm l = has_leaf (told_slot (drop l.arm-index l.list)) ≡ has_leaf (told_slot l.list)

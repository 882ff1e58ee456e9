use Rattle.std.proofs.Common.{◌≡◌, drop}
use Rattle.draid_record.specs.Record.{has_arm, told_slot}
use Rattle.draid_record.proofs.arm.has_arm.Given as goal

abbrev pub invariant-loop-arm : goal.invariant-loop-arm
invariant-loop-arm l = has_arm (told_slot (drop l.arm-index l.list)) l.kind l.number ≡ has_arm (told_slot l.list) l.kind l.number

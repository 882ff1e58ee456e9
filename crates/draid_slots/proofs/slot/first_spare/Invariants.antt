use Rattle.std.proofs.Common.{◌≡◌, drop}
use Rattle.draid_slots.specs.Table.{first_spare}
use Rattle.draid_slots.proofs.slot.first_spare.Given as goal

abbrev pub invariant-loop-arm : goal.invariant-loop-arm
invariant-loop-arm l = first_spare l.arms ≡ first_spare (drop l.arm-index l.arms)

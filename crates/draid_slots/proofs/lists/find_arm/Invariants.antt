use Rattle.std.proofs.Common.{◌<◌, [], map}
use Rattle.std.specs.Prelude.{slice_get, slice_index_or}
use Rattle.draid_names.specs.declared.arm.ArmAt.{ArmAt}
use Rattle.draid_slots.specs.Table.{IsArmOf, arms_in}
use Rattle.draid_slots.proofs.lists.find_arm.Given as goal

abbrev pub invariant-loop-slot : goal.invariant-loop-slot
invariant-loop-slot l = (at : ArmAt) → at.slot < l.slot → ¬ (IsArmOf l.kind l.number (slice_get (slice_index_or (map arms_in l.slots) at.slot []) at.arm))

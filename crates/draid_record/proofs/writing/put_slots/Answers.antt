use Rattle.std.proofs.Common.{List, Vec, Global, ap, ◌∙◌}
use Rattle.draid_names.specs.declared.arm.Arm.{Arm}
use Rattle.draid_ranges.specs.Numbers.{Numbers}
use Rattle.draid_record.specs.Record.{told_slot}
use Rattle.draid_record.specs.Written.{slot_bytes}
use Rattle.draid_record.proofs.Adding.{all_told, as_is, nothing, told_more}
use Rattle.draid_record.proofs.writing.put_slots.Goals as goal

pub loop-slot-init : goal.loop-slot-init
loop-slot-init c = nothing _

pub loop-slot-preserved : goal.loop-slot-preserved
loop-slot-preserved c =
    let x : Vec (Arm × Numbers) Global = c.slot-item.result in
    told_more slot_bytes (λ (list : Vec (Arm × Numbers) Global). told_slot list.items) c.args.slots.now c.loop-slot.slot-index x _ _ _ c.loop-slot-test.true c.loop-slot.invariant
    (as_is _ _ _ _ c.put_slot.ensures
    (ap (λ (list : List (Arm × Numbers)). slot_bytes (told_slot list)) c.deref.ensures.value ∙ ap (λ (list : Vec (Arm × Numbers) Global). slot_bytes (told_slot list.items)) c.slot-item.is))

pub returns : goal.returns
returns c = all_told slot_bytes (λ (list : Vec (Arm × Numbers) Global). told_slot list.items) c.args.slots.now c.loop-slot.slot-index _ _ c.loop-slot-test.false c.loop-slot.invariant

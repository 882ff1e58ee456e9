use Rattle.std.proofs.Common.{arith}
use Rattle.std.specs.declared.alloc.Global.{Global}
use Rattle.std.specs.declared.vec.Vec.{Vec}
use Rattle.draid_names.specs.declared.arm.Arm.{Arm}
use Rattle.draid_ranges.specs.Numbers.{Numbers}
use Rattle.draid_stable.specs.Sealing.{CopiesSlot}
use Rattle.draid_stable.proofs.Copying.{at_more}
use Rattle.draid_stable.proofs.arms.copied_slots.Goals as goal

pub loop-slot-preserved : goal.loop-slot-preserved
loop-slot-preserved c =
    at_more (λ slot (list : Vec (Arm × Numbers) Global). CopiesSlot c.args.slots.now slot list.items) c.loop-slot.lists.items c.push.new.self.items c.in_ok-copied_slot.field-0 c.loop-slot.slot
    c.in_ok-push.ensures.items c.loop-slot.invariant.0 c.loop-slot.invariant.1 c.in_ok-copied_slot.ensures

pub returns : goal.returns
returns c =
    let count = c.loop-slot.invariant.0 in
    let past = c.loop-slot-test.false in
    let upto = c.loop-slot.auto.slot-end in
    let all = c.children-slot-end.ensures.count in
    let held = c.children-slot-end.ensures.sound.slots.children in
    record {
      copies = record { count = omega (arith, count, past, upto, all, held); each = c.loop-slot.invariant.1 };
      sound = c.children-slot-end.ensures.sound;
    }

use Rattle.std.proofs.Common.{◌<◌, subst, length}
use Rattle.draid_marks.proofs.Missing.{arms_none, room_here}
use Rattle.draid_marks.proofs.missed.miss_in_slot.Goals as goal

pub loop-arm-init : goal.loop-arm-init
loop-arm-init c = arms_none c.args.slots.now c.args.marks.now c.args.slot c.args.group

pub miss-requires-clause-room : goal.miss-requires-clause-room
miss-requires-clause-room c =
    room_here c.args.slots.now c.loop-arm.slots c.args.marks.now c.args.slot c.loop-arm.arm c.args.group c.loop-arm.invariant c.requires.room
    (subst (λ list. c.loop-arm.arm < length list) c.arms-arm-end.ensures.arms c.loop-arm-test.true) c.if-marks-arm.true

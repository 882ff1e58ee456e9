use Rattle.std.proofs.Common.{◌≡◌, arith, refl}
use Rattle.draid_marks.proofs.Missing.{below_more, below_none, table_all}
use Rattle.draid_marks.proofs.missed.miss_all.Goals as goal

pub returns : goal.returns
returns c =
    let past = c.loop-slot-test.false in
    let upto = c.loop-slot.auto.slot-end in
    let count = c.children-slot-end.ensures.count in
    let all : c.loop-slot.slot ≡ c.args.slots.now.geometry.spec.children = omega (arith, past, upto, count) in
    table_all c.args.slots.now c.loop-slot.slots c.args.marks.now c.loop-slot.slot c.args.group c.children-slot-end.ensures.sound all c.loop-slot.invariant

pub loop-slot-init : goal.loop-slot-init
loop-slot-init c = below_none c.args.slots.now c.args.marks.now c.args.group

pub loop-slot-preserved : goal.loop-slot-preserved
loop-slot-preserved c = below_more c.args.slots.now c.loop-slot.slots c.miss_in_slot.new.slots c.args.marks.now _ c.loop-slot.slot c.args.group refl c.loop-slot.invariant c.miss_in_slot.ensures

use Rattle.std.proofs.Common.{◌<◌, ◌∙◌, arith, length}
use Rattle.std.proofs.lemmas.List.{length-set}
use Rattle.draid_marks.proofs.Marking.{are_silent, slot_below, slots_all}
use Rattle.draid_marks.proofs.silent.mark_silent.Goals as goal

pub loop-slot-preserved : goal.loop-slot-preserved
loop-slot-preserved c =
    let is = c.loop-slot.invariant in
    let marks = c.loop-slot.marks.items in
    let count = is.count in
    let test = c.loop-slot-test.true in
    let all = c.children-slot-end.ensures.count in
    let inside : c.loop-slot.slot < length marks = omega (arith, count, test, all) in
    record {
      count = length-set marks c.loop-slot.slot c.silent_arms.result ∙ count;
      below = slot_below c.args.slots.now c.args.failed.now c.loop-slot.slot marks c.silent_arms.result inside c.silent_arms.ensures is.below;
    }

pub returns : goal.returns
returns c =
    let is = c.loop-slot.invariant in
    let slots = c.args.slots.now in
    let marks = c.loop-slot.marks.items in
    let count = is.count in
    let past = c.loop-slot-test.false in
    let all = c.children-slot-end.ensures.count in
    let sound = c.children-slot-end.ensures.sound in
    let held = sound.slots.children in
    record {
      count = count;
      silent = are_silent slots c.args.failed.now sound.layout marks
          (slots_all slots c.args.failed.now c.loop-slot.slot marks (omega (arith, count, past, all)) (omega (arith, past, all, held)) is.below);
    }

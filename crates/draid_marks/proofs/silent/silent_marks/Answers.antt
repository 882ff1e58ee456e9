use Rattle.std.proofs.Common.{◌<◌, ◌∙◌, arith, length, rules}
use Rattle.std.proofs.lemmas.List.{length-set}
use Rattle.draid_marks.proofs.Marking.{are_silent, none_marked, slot_above, slot_below, slots_both}
use Rattle.draid_marks.proofs.silent.silent_marks.Goals as goal

pub loop-slot-preserved : goal.loop-slot-preserved
loop-slot-preserved c =
    let is = c.loop-slot.invariant in
    let marks = c.loop-slot.marks in
    let count = is.count in
    let test = c.loop-slot-test.true in
    let all = c.children-slot-end.ensures.count in
    let held = c.children-slot-end.ensures.sound.layout.geometry_is.spec.most_children in
    let inside : c.loop-slot.slot < length marks = omega (arith, count, test, held) in
    record {
      count = length-set marks c.loop-slot.slot c.silent_arms.result ∙ count;
      below = slot_below c.args.slots.now c.args.failed.now c.loop-slot.slot marks c.silent_arms.result inside c.silent_arms.ensures is.below;
      above = slot_above c.args.slots.now c.args.failed.now c.loop-slot.slot marks c.silent_arms.result is.above;
    }

pub returns : goal.returns
returns c =
    let is = c.loop-slot.invariant in
    let slots = c.args.slots.now in
    let count = is.count in
    let past = c.loop-slot-test.false in
    let sound = c.children-slot-end.ensures.sound in
    let held = sound.slots.children in
    let most = sound.layout.geometry_is.spec.most_children in
    record {
      count = omega (arith, count, most);
      silent = are_silent slots c.args.failed.now sound.layout c.loop-slot.marks
          (slots_both slots c.args.failed.now c.loop-slot.slot c.loop-slot.marks (omega (arith, past, held)) is.below is.above);
    }

pub loop-slot-init : goal.loop-slot-init
loop-slot-init c = record { count = search rules; below = λ slot arm less. absurd (omega (arith, less)); above = λ slot arm behind. none_marked 64 slot arm }

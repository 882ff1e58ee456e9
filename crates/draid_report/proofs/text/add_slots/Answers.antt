use Rattle.std.proofs.Common.{◌∙◌, ap, ◌++◌, string_bytes}
use Rattle.draid_report.specs.Text.{slot_lines}
use Rattle.draid_report.proofs.Enumerated.{text_more}
use Rattle.draid_report.proofs.text.add_slots.Goals as goal

pub loop-slot-preserved : goal.loop-slot-preserved
loop-slot-preserved c =
    let item = c.deref.ensures.value ∙ ap (λ arms. arms.items) c.index-slots-slot.is in
    text_more _ _ _ _ _ _ _ c.loop-slot-test.true c.loop-slot.invariant
    (c.in_ok-add_arms.ensures ∙ ap (λ arms. string_bytes c.loop-slot.text ++ slot_lines c.loop-slot.slot arms) item)

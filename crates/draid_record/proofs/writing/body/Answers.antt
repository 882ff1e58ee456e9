use Rattle.std.proofs.Common.{◌≡◌, length, Vec, Global, ap, ◌∙◌, arith}
use Rattle.std.specs.List.{flat_map}
use Rattle.std.proofs.lemmas.List.{length-map}
use Rattle.byteorder.specs.Endian.{big_bytes}
use Rattle.draid_names.specs.declared.arm.Arm.{Arm}
use Rattle.draid_ranges.specs.Numbers.{Numbers}
use Rattle.draid_record.specs.declared.record.Record.{Record}
use Rattle.draid_record.specs.Record.{spaces_of, told_slot, told_slots}
use Rattle.draid_record.specs.Written.{blocks_bytes, slot_bytes, spaces_bytes}
use Rattle.draid_record.proofs.Adding.{as_is, both, written_all}
use Rattle.draid_record.proofs.writing.body.Goals as goal

pub returns : goal.returns
returns c =
    let v : Record = c.args.value.now in
    let slots : c.len.result ≡ length (told_slots v.slots.items) = omega (arith, c.len.ensures, v.slots.ok.0, length-map v.slots.items (λ (list : Vec (Arm × Numbers) Global). told_slot list.items)) in
    let runs = c.deref-3.ensures.value ∙ c.in_ok-runs.ensures ∙ ap spaces_of c.deref.ensures.value in
    written_all c.done.result _ _ _ c.new-out.ensures
    (both _ _ _ _ _
    (both _ _ _ _ _
    (both _ _ _ _ _
    (both _ _ _ _ _
    (both _ _ _ _ _ (both _ _ _ _ _ (both _ _ _ _ _ (as_is _ _ _ _ c.put.ensures (ap (big_bytes 2) c.from.ensures)) c.put-2.ensures) (as_is _ _ _ _ c.put-3.ensures (ap (big_bytes 2) slots)))
    (as_is _ _ _ _ c.put_slots.ensures (ap (λ s. flat_map slot_bytes (told_slots s)) c.deref-2.ensures.value)))
    c.put-4.ensures)
    c.put_pass.ensures)
    (as_is _ _ _ _ c.put_spaces.ensures (ap (λ rs. spaces_bytes rs) runs)))
    (as_is _ _ _ _ c.put_blocks.ensures (ap (λ bs. blocks_bytes bs) c.deref-4.ensures.value)))
    c.done.ensures

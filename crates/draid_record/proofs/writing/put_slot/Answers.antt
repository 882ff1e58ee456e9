use Rattle.std.proofs.Common.{ap, sym}
use Rattle.std.proofs.lemmas.List.{length-map}
use Rattle.byteorder.specs.Endian.{big_bytes}
use Rattle.draid_names.specs.declared.arm.Arm.{Arm}
use Rattle.draid_ranges.specs.Numbers.{Numbers}
use Rattle.draid_record.specs.Record.{told_arm}
use Rattle.draid_record.specs.Written.{arm_bytes}
use Rattle.draid_record.proofs.Adding.{all_told, as_is, both, nothing, told_more}
use Rattle.draid_record.proofs.writing.put_slot.Goals as goal

pub loop-arm-init : goal.loop-arm-init
loop-arm-init c = nothing _

pub loop-arm-preserved : goal.loop-arm-preserved
loop-arm-preserved c =
    let x : Arm × Numbers = c.loop-arm-item.result in
    told_more arm_bytes told_arm c.args.slot.now c.loop-arm.arm-index x _ _ _ c.loop-arm-test.true c.loop-arm.invariant
    (as_is _ _ _ _ c.put_arm.ensures (ap (λ (p : Arm × Numbers). arm_bytes (told_arm p)) c.loop-arm-item.is))

pub returns : goal.returns
returns c =
    both _ _ _ _ _ (as_is _ _ _ _ c.put.ensures (ap (big_bytes 1) (sym (length-map c.args.slot.now told_arm))))
    (all_told arm_bytes told_arm c.args.slot.now c.loop-arm.arm-index _ _ c.loop-arm-test.false c.loop-arm.invariant)

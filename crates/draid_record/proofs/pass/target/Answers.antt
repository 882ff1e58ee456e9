use Rattle.std.proofs.Common.{◌∙◌, ap, sym, ◌-◌, Vec, Global}
use Rattle.std.proofs.lemmas.List.{length-map}
use Rattle.draid_names.specs.declared.arm.Arm.{Arm}
use Rattle.draid_ranges.specs.Numbers.{Numbers}
use Rattle.draid_record.specs.Record.{told_slot}
use Rattle.draid_record.proofs.Steps.{done, number_then}
use Rattle.draid_record.proofs.pass.target.Goals as goal

pub returns : goal.returns
returns c =
    let last = c.saturating_sub-most.ensures ∙ ap (λ n. n - 1) (sym (length-map c.args.all.now (λ (list : Vec (Arm × Numbers) Global). told_slot list.items))) in
    number_then 2 _ _ _ _ _ _ _ _ _ _ c.least_slot.ensures last c.number-slot.ensures.reads
    (number_then 1 _ _ _ _ _ _ _ _ _ _ c.least_arm.ensures (c.saturating_sub-most-2.ensures ∙ ap (λ n. n - 1) c.arms_at.ensures) c.number-arm.ensures.reads (done _ _))

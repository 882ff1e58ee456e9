use Rattle.std.proofs.Common.{◌∙◌, ap, refl, subst, sym, ◌%◌, ◌/◌}
use Rattle.std.specs.Prelude.{◌==◌, ◌&&◌, nat_lt, not}
use Rattle.draid_names.specs.declared.arm.Arm.{Arm}
use Rattle.draid_names.specs.declared.arm.ArmKind.{ArmKind}
use Rattle.draid_record.specs.Reader.{Reads, state_of}
use Rattle.draid_record.specs.Record as spec
use Rattle.draid_record.specs.Record.{told_slot, told_slots}
use Rattle.draid_record.proofs.Steps.{check_then, done, number_then}
use Rattle.draid_record.proofs.arm.arm_head.Goals as goal

pub returns : goal.returns
returns c =
    let before = told_slots c.args.before.now in
    let here = told_slot c.args.here.now in
    let n = c.number-number.result in
    let flags = c.number-flags.result in
    let found : ArmKind → Arm = λ k. record { kind = k; number = n; offline = flags % 2 == 1; fresh = flags / 2 == 1 } in
    let A : ArmKind → Type 0 = λ k. Reads (state_of c.args.reader.now) (state_of c.check-3.new.self) (found k) (spec.arm_head c.args.limits.now before c.args.count here) in
    let known = c.is_new.ensures ∙ ap (λ k. nat_lt n (spec.limit_of c.args.limits.now k) && not (spec.stands before here k n)) c.kind_of-kind.ensures in
    let allowed = c.are_flags.ensures ∙ ap (λ k. spec.are_flags k flags) c.kind_of-kind.ensures in
    subst A (sym c.kind_of-kind.ensures)
    (number_then 1 _ _ _ _ _ _ _ _ _ _ refl refl c.number-code.ensures.reads
    (check_then _ _ 1 _ _ _ _ _ c.keeps_leaf.ensures c.check.ensures
    (number_then 8 _ _ _ _ _ _ _ _ _ _ refl refl c.number-number.ensures.reads
    (check_then _ _ 8 _ _ _ _ _ known c.check-2.ensures
    (number_then 1 _ _ _ _ _ _ _ _ _ _ refl refl c.number-flags.ensures.reads
    (check_then _ _ 1 _ _ _ _ _ allowed c.check-3.ensures (done _ _)))))))

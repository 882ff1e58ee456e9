use Rattle.std.proofs.Common.{◌≡◌, ◌∙◌, ◌∷◌, ◌++◌, [], List, false, ap, subst, sym, arith}
use Rattle.std.specs.Prelude.{is_err}
use Rattle.std.proofs.lemmas.List.{map_push}
use Rattle.draid_names.specs.declared.arm.Arm.{Arm}
use Rattle.draid_ranges.specs.declared.run.Run.{Run}
use Rattle.draid_record.specs.Grammar.{Done, ◌>>=◌}
use Rattle.draid_record.specs.Reader.{Reads, state_of}
use Rattle.draid_record.specs.Record as spec
use Rattle.draid_record.specs.Record.{ArmTold, told_arm, told_slot, told_slots}
use Rattle.draid_record.proofs.Loop.{begins, ends, goes_on, is_done}
use Rattle.draid_record.proofs.Steps.{done, joins}
use Rattle.draid_record.proofs.arm.arms.Goals as goal

pub loop-init : goal.loop-init
loop-init c =
    let begun : told_slot c.new-arms.result.items ≡ [] = ap told_slot c.new-arms.ensures.items in
    record {
      still = rw begun (begins (spec.arm c.args.limits.now (told_slots c.args.before.now) c.args.count) spec.with_last [] c.args.count (state_of c.args.reader.now));
      few = rw c.new-arms.ensures.items (omega arith);
    }

pub returns-then-has_failed-clause-arms : goal.returns-then-has_failed-clause-arms
returns-then-has_failed-clause-arms c =
    let limits = c.args.limits.now in
    let before = told_slots c.args.before.now in
    let count = c.args.count in
    let front = told_slot c.loop.arms.items in
    let H : List ArmTold → Type 0 = λ here. Reads (state_of c.loop.reader) (state_of c.arm_head-arm.new.reader) c.arm_head-arm.result (spec.arm_head limits before count here) in
    let b = state_of c.log.new.reader in
    let x : ArmTold = (c.arm_head-arm.result, c.in_ok-log.log.runs) in
    let read : Reads (state_of c.loop.reader) b x (spec.arm limits before count front) = joins (spec.arm_head limits before count front) (λ (a : Arm). spec.log >>= λ l. Done (a, l)) _ _ _ c.arm_head-arm.result _ (subst H (ap told_slot c.deref.ensures.value) c.arm_head-arm.ensures)
    (joins spec.log (λ (l : List Run). Done (c.arm_head-arm.result, l)) _ _ _ c.in_ok-log.log.runs _ c.in_ok-log.ensures (done _ _)) in
    ends (spec.arm limits before count) spec.with_last front front front count c.loop.counter (state_of c.args.reader.now) (state_of c.loop.reader) b x (spec.slot_arms limits before count)
    c.loop-test.true read (sym c.has_failed.ensures ∙ c.if-has_failed.true) c.loop.invariant.still

pub loop-preserved : goal.loop-preserved
loop-preserved c =
    let limits = c.args.limits.now in
    let before = told_slots c.args.before.now in
    let count = c.args.count in
    let front = told_slot c.loop.arms.items in
    let b = state_of c.log.new.reader in
    let x : ArmTold = (c.arm_head-arm.result, c.in_ok-log.log.runs) in
    let ok : is_err b ≡ false = sym c.has_failed.ensures ∙ c.if-has_failed.false in
    let e : told_slot c.push.new.self.items ≡ front ++ x ∷ [] = rw c.in_ok-push.ensures.items (map_push told_arm c.loop.arms.items _) in
    let H : List ArmTold → Type 0 = λ here. Reads (state_of c.loop.reader) (state_of c.arm_head-arm.new.reader) c.arm_head-arm.result (spec.arm_head limits before count here) in
    let read : Reads (state_of c.loop.reader) b x (spec.arm limits before count front) = joins (spec.arm_head limits before count front) (λ (a : Arm). spec.log >>= λ l. Done (a, l)) _ _ _ c.arm_head-arm.result _ (subst H (ap told_slot c.deref.ensures.value) c.arm_head-arm.ensures)
    (joins spec.log (λ (l : List Run). Done (c.arm_head-arm.result, l)) _ _ _ c.in_ok-log.log.runs _ c.in_ok-log.ensures (done _ _)) in
    record {
      few = (let few = c.loop.invariant.few in let one = c.in_ok-push.ensures.len in omega arith);
      still = rw e (goes_on (spec.arm limits before count) spec.with_last front front count c.loop.counter (state_of c.args.reader.now) (state_of c.loop.reader) b x (spec.slot_arms limits before count) c.loop-test.true read ok c.loop.invariant.still);
    }

pub returns-clause-arms : goal.returns-clause-arms
returns-clause-arms c = is_done (spec.arm c.args.limits.now (told_slots c.args.before.now) c.args.count) spec.with_last (told_slot c.loop.arms.items) (told_slot c.loop.arms.items) c.args.count c.loop.counter (state_of c.args.reader.now) (state_of c.loop.reader) (spec.slot_arms c.args.limits.now (told_slots c.args.before.now) c.args.count) c.loop-test.false c.loop.invariant.still

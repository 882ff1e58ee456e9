use Rattle.std.proofs.Common.{◌≡◌, ◌+◌, ◌*◌, ◌∙◌, ℕ, List, Option, length, ap, refl, subst, arith}
use Rattle.std.specs.Option.{option_map}
use Rattle.draid_names.specs.declared.pointer.Pointer.{Pointer}
use Rattle.draid_ranges.specs.declared.run.Run.{Run}
use Rattle.draid_record.specs.Reader.{Reads, state_of}
use Rattle.draid_record.specs.Record as spec
use Rattle.draid_record.specs.Record.{ArmTold, PassTold, told_pass, told_slots}
use Rattle.draid_record.proofs.Steps.{check_back, done, joins, number_then}
use Rattle.draid_record.proofs.record.body.Goals as goal

pub returns-clause-body : goal.returns-clause-body
returns-clause-body c =
    let limits = c.args.limits.now in
    let all : List (List ArmTold) = told_slots c.in_ok-slots.slots.items in
    let last = c.number-last_pass.result in
    let running : Option PassTold = option_map told_pass c.in_ok-pass.pass in
    let runs : List Run = c.in_ok-runs.runs.items in
    let list : List Pointer = c.in_ok-list.list.items in
    let P : List (List ArmTold) → Type 0 = λ all. Reads (state_of c.number-last_pass.new.self) (state_of c.pass.new.reader) running (spec.pass limits all) in
    let kept : c.are_spaces.result ≡ spec.same_runs runs (spec.spaces_of list) =
    c.are_spaces.ensures ∙ ap (λ rs. spec.same_runs rs (spec.spaces_of c.deref-3.result.now)) c.deref-2.ensures.value ∙ ap (λ bs. spec.same_runs runs (spec.spaces_of bs)) c.deref-3.ensures.value in
    let back : 8 + 16 * c.len.result + 72 * c.len-2.result ≡ 8 + 16 * length runs + 72 * length list = omega (arith, c.len.ensures, c.len-2.ensures, c.in_ok-runs.runs.ok.0, c.in_ok-list.list.ok.0) in
    joins (spec.head limits) (λ (children : ℕ). spec.behind_head limits) _ _ _ limits.children _ c.head.ensures
    (joins (spec.slots limits) (λ (all : List (List ArmTold)). spec.behind_slots limits all) _ _ _ all _ c.in_ok-slots.ensures.slots
    (number_then 8 _ _ _ _ _ _ _ _ last _ refl refl c.number-last_pass.ensures.reads
    (joins (spec.pass limits all) (λ (running : Option PassTold). spec.behind_pass limits all last running) _ _ _ running _ (subst P (ap told_slots c.deref.ensures.value) c.in_ok-pass.ensures.pass)
    (joins spec.spaces (λ (runs : List Run). spec.behind_spaces limits all last running runs) _ _ _ runs _ c.in_ok-runs.ensures.runs
    (joins (spec.blocks limits) (λ (list : List Pointer). spec.behind_blocks limits all last running runs list) _ _ _ list _ c.in_ok-list.ensures.blocks
    (check_back _ _ (8 + 16 * length runs + 72 * length list) _ _ _ _ _ _ kept back c.check.ensures (done _ _)))))))

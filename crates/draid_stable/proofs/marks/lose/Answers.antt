use Rattle.std.proofs.Common.{◌≡◌, ◌+◌, ◌∙◌, ◌-◌, not, Bool, ap, ap₂, count_by, filter, length, rules}
use Rattle.std.proofs.lemmas.Fn.{filter_same}
use Rattle.draid_names.specs.declared.arm.ArmAt.{ArmAt}
use Rattle.draid_machine.specs.After.{capped}
use Rattle.draid_record.specs.Record.{told_pass}
use Rattle.draid_stable.specs.Sealing.{by_kind, is_lost}
use Rattle.draid_stable.proofs.Marked.{lost_count}
use Rattle.draid_stable.proofs.marks.lose.Goals as goal

pub returns-clause-told : goal.returns-clause-told
returns-clause-told c =
    let p = c.args.pass.now in
    let bad : ArmAt → Bool = is_lost c.args.marks.now in
    let test : ArmAt → Bool = λ place. not (bad place) in
    let left : c.retain.new.self.items ≡ filter test p.targets.items = filter_same _ test _ (λ x b f' k. search rules) _ _ c.retain.ensures.filtered in
    let before : c.len-before.result ≡ length p.targets.items = search rules in
    let after : c.len.result ≡ length c.retain.new.self.items = search rules in
    let errors : c.errors_after-pass.result ≡ capped (p.errors + by_kind p.kind (count_by bad p.targets.items)) =
    c.errors_after-pass.ensures
    ∙ ap₂ (λ a b. capped (p.errors + by_kind p.kind (a - b))) before after
    ∙ ap (λ n. capped (p.errors + by_kind p.kind n)) (lost_count bad p.targets.items c.retain.new.self.items left)
    in
    λ i. record (told_pass p) { targets = left i; errors = errors i }

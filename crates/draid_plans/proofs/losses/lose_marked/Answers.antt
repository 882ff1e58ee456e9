use Rattle.std.proofs.Common.{◌≡◌, ◌+◌, ◌∙◌, ◌-◌, not, Bool, ap, ap₂, filter, length, refl, rules}
use Rattle.std.proofs.lemmas.Fn.{filter_same}
use Rattle.draid_names.specs.declared.arm.ArmAt.{ArmAt}
use Rattle.draid_machine.specs.After.{capped}
use Rattle.draid_plans.specs.Ends.{counted, is_lost}
use Rattle.draid_plans.proofs.Losing.{loses_all, lost_count}
use Rattle.draid_plans.proofs.losses.lose_marked.Goals as goal

pub returns-clause-lost : goal.returns-clause-lost
returns-clause-lost c =
    let p = c.args.pass.now in
    let bad : ArmAt → Bool = is_lost c.args.marks.now in
    let test : ArmAt → Bool = λ place. not (bad place) in
    let left : c.retain.new.self.items ≡ filter test p.targets.items = filter_same _ test _ (λ x b f' k. search rules) _ _ c.retain.ensures.filtered in
    let before : c.len-before.result ≡ length p.targets.items = search rules in
    let after : c.len.result ≡ length c.retain.new.self.items = search rules in
    record {
      number_stays = refl;
      kind_stays = refl;
      targets_are = left;
      max_stays = refl;
      place_stays = refl;
      errors_are = c.errors_after-pass.ensures
          ∙ ap₂ (λ a b. capped (p.errors + counted p.kind (a - b))) before after
          ∙ ap (λ n. capped (p.errors + counted p.kind n)) (lost_count bad p.targets.items c.retain.new.self.items left);
      running_stays = refl;
      room = c.retain.ensures.capacity;
    }

pub returns-clause-state : goal.returns-clause-state
returns-clause-state c = loses_all c.args.marks.now c.args.pass.now _ (returns-clause-lost c)

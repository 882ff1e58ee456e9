use Rattle.std.proofs.Common.{◌≡◌, ◌∙◌, ap, rules, Bool, not, Some, filter}
use Rattle.draid_machine.specs.declared.names.Key.{Key}
use Rattle.draid_machine.specs.declared.names.Held.{Held}
use Rattle.draid_machine.specs.After.{is_freed_block}
use Rattle.draid_world.specs.World.{held_in}
use Rattle.draid_steps.proofs.Entries.{ordered_apart}
use Rattle.draid_steps.proofs.Kept.{retained, held_kept}
use Rattle.draid_steps.proofs.commits.drop_freed.Goals as goal

pub returns : goal.returns
returns c =
    let keep : Key × Held → Bool = λ e. not (is_freed_block c.args.group (Some e.1)) in
    let left : c.retain.new.self.entries ≡ filter keep c.args.held.now.entries =
    retained _ _ keep (λ k v b w g t. (search rules, search rules, search rules)) _ _ c.retain.ensures.filtered in
    λ k. ap (λ es. held_in es k) left ∙ held_kept c.args.group c.args.held.now.entries k (ordered_apart c.args.held.now.entries c.retain.ensures.was_ordered)

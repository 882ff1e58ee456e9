use Rattle.std.proofs.Common.{◌≡◌, ◌∙◌, ap, rules, Bool, ℕ, filter}
use Rattle.draid_machine.specs.declared.names.Segment.{Segment}
use Rattle.draid_world.specs.World.{held_in, kept_in}
use Rattle.draid_world.proofs.Keeping.{filtered, segments_apart}
use Rattle.draid_steps.proofs.Kept.{keeps_on, kept_on}
use Rattle.draid_steps.proofs.commits.drop_kept.Goals as goal

pub returns : goal.returns
returns c =
    let held = held_in c.args.tables.now.held.entries in
    let keep : Segment × ℕ → Bool = λ e. keeps_on held c.args.group e.0 e.1 in
    let left : c.retain.new.self.entries ≡ filter keep c.args.kept.now.entries =
    filtered _ _ keep (λ k v b w g t. (search rules, search rules, search rules)) _ _ c.retain.ensures.filtered in
    λ s. ap (λ es. kept_in es s) left ∙ kept_on held c.args.group c.args.kept.now.entries s (segments_apart c.args.kept.now.entries c.retain.ensures.was_ordered)

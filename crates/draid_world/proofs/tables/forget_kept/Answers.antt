use Rattle.std.proofs.Common.{◌≡◌, ◌∙◌, ℕ, Bool, not, filter, ap, rules}
use Rattle.draid_machine.specs.declared.names.Segment.{Segment}
use Rattle.draid_machine.specs.Names.{key_eq}
use Rattle.draid_world.specs.World.{kept_in}
use Rattle.draid_world.proofs.Keeping.{filtered, key_forgotten}
use Rattle.draid_world.proofs.tables.forget_kept.Goals as goal

pub returns : goal.returns
returns c =
    let keep : Segment × ℕ → Bool = λ e. not (key_eq c.args.key e.0.key) in
    let left : c.retain.new.self.entries ≡ filter keep c.args.kept.now.entries =
    filtered _ _ keep (λ k v b w g t. (search rules, search rules, search rules)) _ _ c.retain.ensures.filtered in
    λ s. ap (λ es. kept_in es s) left ∙ key_forgotten c.args.key c.args.kept.now.entries s

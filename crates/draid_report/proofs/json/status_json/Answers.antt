use Rattle.std.proofs.Common.{◌∙◌, ap, List, ℕ, ◌++◌, codes}
use Rattle.serde_json.specs.Written.{compact_text, has_float}
use Rattle.draid_report.proofs.Floats.{tree_has_none}
use Rattle.draid_report.proofs.json.status_json.Goals as goal

pub returns : goal.returns
returns c =
    let tree = c.in_ok-tree.ensures in
    let text = c.in_ok-text.ensures.text (ap has_float tree ∙ tree_has_none _) in
    c.in_ok-push.ensures.items ∙ ap (λ (t : List ℕ). t ++ codes "\n") (text ∙ ap compact_text tree)

use Rattle.std.proofs.Common.{rules, ap, List, ℕ}
use Rattle.draid_script.specs.Word.{Placed}
use Rattle.draid_script.proofs.Splits.{behind_equals}
use Rattle.draid_script.proofs.keys.halves.Goals as goal

pub returns-clause-value : goal.returns-clause-value
returns-clause-value c =
    let at = c.args.word.now.at in
    let placed_at = λ (text : List ℕ). let word : Placed = record { text = text; at = at } in word in
    ap placed_at (behind_equals c.args.word.now.text.now c.split_at.result.1.now c.without_first-text.result.now c.first.result (search rules) (search rules) (search rules))

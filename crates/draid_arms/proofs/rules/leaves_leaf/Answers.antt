use Rattle.std.proofs.Common.{◌≡◌, ◌∙◌, true, sym, rules}
use Rattle.draid_machine.specs.Names.{is_leaf}
use Rattle.draid_arms.proofs.Orders.{leaf_left, no_leaf_left}
use Rattle.draid_arms.proofs.rules.leaves_leaf.Goals as goal

pub returns-clause-yes : goal.returns-clause-yes
returns-clause-yes c = λ e. leaf_left c.args.names.now c.args.name (sym c.has_leaf_beside.ensures ∙ e)

pub returns-clause-no : goal.returns-clause-no
returns-clause-no c = λ e left.
    let leaf : is_leaf c.args.name ≡ true = search rules in
    no_leaf_left c.args.names.now c.args.name leaf (sym c.has_leaf_beside.ensures ∙ e) left

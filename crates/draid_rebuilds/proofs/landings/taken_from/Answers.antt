use Rattle.std.proofs.Common.{◌≤◌, length, rules, sym}
use Rattle.draid_world.proofs.Orders.{name_in, name_past}
use Rattle.draid_rebuilds.proofs.landings.taken_from.Goals as goal

pub returns-then-at-len : goal.returns-then-at-len
returns-then-at-len c = name_in c.args.loan.now.chosen.items c.args.column c.index.result.now (search rules) (search rules)

pub returns-else-at-len : goal.returns-else-at-len
returns-else-at-len c =
    let past : length c.args.loan.now.chosen.items ≤ c.args.column = search rules in
    sym (name_past c.args.loan.now.chosen.items c.args.column past)

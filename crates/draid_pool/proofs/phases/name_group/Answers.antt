use Rattle.std.proofs.Common.{Err, ap}
use Rattle.draid_pool.specs.Ubers.{Names, Refuses}
use Rattle.draid_pool.proofs.phases.name_group.Goals as goal

pub returns-in-Ok : goal.returns-in-Ok
returns-in-Ok g c =
    let e = c.in-Ok.ensures in
    let named : Names g.A.Area c.args.uber.now c.commit_with_check.new.self c.args.group = record { valid = e.valid; stands = e.committed; kept = e.kept; layout = e.layout; version = e.version; next_leaf = e.leaf; point = e.point; changed = e.changed } in
    record { valid = e.valid; names = (named, e.cause.later) }

pub returns-in-Err-Failed : goal.returns-in-Err-Failed
returns-in-Err-Failed g c =
    let e = c.in-Err-Failed.ensures in
    let refused : Refuses g.A.Area c.args.uber.now c.commit_with_check.new.self c.args.group = record { valid = e.valid; stands = e.refused; kept = e.same; layout = e.same_layout; version = e.version; next_leaf = e.leaf; point = e.point; changed = e.changed } in
    record { valid = e.valid; names = (refused, e.cause.later, e.cause.cause (ap Err c.in-Err-Failed.field-0-is)) }

pub returns-in-Err-NoMemory : goal.returns-in-Err-NoMemory
returns-in-Err-NoMemory g c =
    let e = c.in-Err-NoMemory.ensures in
    let refused : Refuses g.A.Area c.args.uber.now c.commit_with_check.new.self c.args.group = record { valid = e.valid; stands = e.refused; kept = e.same; layout = e.same_layout; version = e.version; next_leaf = e.leaf; point = e.point; changed = e.changed } in
    record { valid = e.valid; names = (refused, e.cause.later) }

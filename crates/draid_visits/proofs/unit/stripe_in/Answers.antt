use Rattle.std.proofs.Common.{subst, sym}
use Rattle.draid_names.specs.declared.pass_kind.PassKind.TheVariants.{Rebuild}
use Rattle.draid_shard.specs.declared.loan.Lent.TheVariants.{End, Unit}
use Rattle.draid_pool.specs.Metaslabs.{IsMetaslab}
use Rattle.draid_pool.specs.Drifts.{KeepsGroups}
use Rattle.draid_visits.proofs.ToLend.{only_moved, only_none, only_rebuild}
use Rattle.draid_visits.proofs.Over.{ok_as, starved, unit_left, worn, worn_as}
use Rattle.draid_visits.proofs.Tables.{groups_landed, groups_left, table_landed}
use Rattle.draid_visits.proofs.Units.{landed_none, moves_on, running_of, unit_goes}
use Rattle.draid_visits.proofs.unit.stripe_in.Goals as goal

pub returns-in-Ok-Unit-clause-table : goal.returns-in-Ok-Unit-clause-table
returns-in-Ok-Unit-clause-table g c =
    let l = c.lend.ensures in
    let unit = l.unit (ok_as c.lend.result c.in-Ok-Unit.field-0 Unit c.in-Ok-Unit.is c.in-Ok-Unit.field-0-is) in
    let e = c.land.ensures in
    table_landed c.args.shard.now c.lend.new.shard c.solve.new.shard c.land.new.shard unit.does.part l.keeps l.arms c.solve.ensures.only e.lands.does.part e.keeps e.slots

pub returns-in-Ok-Unit-clause-groups : goal.returns-in-Ok-Unit-clause-groups
returns-in-Ok-Unit-clause-groups g c =
    let l = c.lend.ensures in
    let e = c.land.ensures in
    groups_landed c.args.shard.now c.lend.new.shard c.solve.new.shard l.keeps l.arms l.reserve c.solve.ensures.only c.land.new.shard e.keeps e.slots e.reserve

pub returns-in-Ok-Unit-clause-only : goal.returns-in-Ok-Unit-clause-only
returns-in-Ok-Unit-clause-only g c =
    let l = c.lend.ensures in
    let unit = l.unit (ok_as c.lend.result c.in-Ok-Unit.field-0 Unit c.in-Ok-Unit.is c.in-Ok-Unit.field-0-is) in
    let s = c.solve.ensures in
    let e = c.land.ensures in
    only_moved Rebuild c.args.shard.now c.land.new.shard (moves_on g.R.Rack c.args.shard.now c.lend.new.shard c.solve.new.shard c.land.new.shard c.requires.running unit l.pass l.valid s.only s.solves e.lands.does.part e.moves)

pub returns-in-Ok-Unit-clause-landed : goal.returns-in-Ok-Unit-clause-landed
returns-in-Ok-Unit-clause-landed g c = λ repaired same.
    (let l = c.lend.ensures in
    let unit = l.unit (ok_as c.lend.result c.in-Ok-Unit.field-0 Unit c.in-Ok-Unit.is c.in-Ok-Unit.field-0-is) in
    let s = c.solve.ensures in
    let e = c.land.ensures in
    (moves_on g.R.Rack c.args.shard.now c.lend.new.shard c.solve.new.shard c.land.new.shard c.requires.running unit l.pass l.valid s.only s.solves e.lands.does.part e.moves, landed_none repaired same))

pub returns-in-Ok-Unit-clause-goes : goal.returns-in-Ok-Unit-clause-goes
returns-in-Ok-Unit-clause-goes g c = λ part pieces x at.
    (let is = ok_as c.lend.result c.in-Ok-Unit.field-0 Unit c.in-Ok-Unit.is c.in-Ok-Unit.field-0-is in
    let l = c.lend.ensures in
    let s = c.solve.ensures in
    let e = c.land.ensures in
    unit_goes g.R.Rack g.A.Area c.args.shard.now c.lend.new.shard c.solve.new.shard c.land.new.shard c.requires.running (l.unit is) l.valid l.areas l.told l.reserve (l.not_worn is) s.valid s.only s.none s.solves e.valid e.areas e.lands
    e.reserve part pieces x at)

pub returns-in-Ok-End-clause-groups : goal.returns-in-Ok-End-clause-groups
returns-in-Ok-End-clause-groups g c =
    let end = c.lend.ensures.end (ok_as c.lend.result c.in-Ok-End.field-0 End c.in-Ok-End.is c.in-Ok-End.field-0-is) in
    subst (λ s. KeepsGroups s c.end_in.new.shard) end.1 c.end_in.ensures.groups

pub returns-in-Ok-End-clause-only : goal.returns-in-Ok-End-clause-only
returns-in-Ok-End-clause-only g c = only_none Rebuild c.end_in.new.shard c.end_in.ensures.over

pub returns-in-Ok-End-clause-goes : goal.returns-in-Ok-End-clause-goes
returns-in-Ok-End-clause-goes g c = λ part pieces x at.
    (let end = c.lend.ensures.end (ok_as c.lend.result c.in-Ok-End.field-0 End c.in-Ok-End.is c.in-Ok-End.field-0-is) in
    c.end_in.ensures.goes part pieces x (subst (λ s. IsMetaslab g.R.Rack g.A.Area part pieces s x) (sym end.1) at))

pub returns-in-Err-Worn-clause-groups : goal.returns-in-Err-Worn-clause-groups
returns-in-Err-Worn-clause-groups g c = (let l = c.lend.ensures in groups_left c.args.shard.now c.lend.new.shard l.keeps l.arms l.reserve)

pub returns-in-Err-Worn-clause-only : goal.returns-in-Err-Worn-clause-only
returns-in-Err-Worn-clause-only g c = only_rebuild c.args.shard.now c.lend.new.shard c.requires.running c.lend.ensures.pass

pub returns-in-Err-Worn-clause-goes : goal.returns-in-Err-Worn-clause-goes
returns-in-Err-Worn-clause-goes g c = λ part pieces x at.
    (let old = c.args.shard.now in
    let z = running_of old.pass c.requires.running in
    let why = c.in-Err-Worn in
    let e = why.ensures in
    worn g.R.Rack g.A.Area part pieces old x at c.lend.new.shard e.valid e.none.none e.kit e.reserve Rebuild (unit_left old z.pass z.there z.is.rebuild e.more) (worn_as old why.field-0 why.field-0-0 e.refused why.field-0-is))

pub returns-in-Err-NoMemory-clause-groups : goal.returns-in-Err-NoMemory-clause-groups
returns-in-Err-NoMemory-clause-groups g c = (let l = c.lend.ensures in groups_left c.args.shard.now c.lend.new.shard l.keeps l.arms l.reserve)

pub returns-in-Err-NoMemory-clause-only : goal.returns-in-Err-NoMemory-clause-only
returns-in-Err-NoMemory-clause-only g c = only_rebuild c.args.shard.now c.lend.new.shard c.requires.running c.lend.ensures.pass

pub returns-in-Err-NoMemory-clause-goes : goal.returns-in-Err-NoMemory-clause-goes
returns-in-Err-NoMemory-clause-goes g c = λ part pieces x at.
    (let old = c.args.shard.now in
    let z = running_of old.pass c.requires.running in
    let e = c.in-Err-NoMemory.ensures in
    starved g.R.Rack g.A.Area part pieces old x at c.lend.new.shard e.valid e.none.none e.kit e.reserve Rebuild (unit_left old z.pass z.there z.is.rebuild e.more))

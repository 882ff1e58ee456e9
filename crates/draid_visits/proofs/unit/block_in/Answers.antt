use Rattle.std.proofs.Common.{◌∙◌, false, length, subst, sym}
use Rattle.draid_names.specs.declared.pass_kind.PassKind.TheVariants.{Heal}
use Rattle.draid_shard.specs.declared.loan.Lent.TheVariants.{End, Unit}
use Rattle.draid_pool.specs.Drifts.{KeepsGroups}
use Rattle.draid_pool.specs.Metaslabs.{IsMetaslab}
use Rattle.draid_pool.specs.Shards.{SameBlocks}
use Rattle.draid_visits.specs.Steps.{HadContents, NextIs}
use Rattle.draid_visits.specs.declared.steps.Next.TheVariants as next
use Rattle.draid_visits.proofs.Blocks.{block_goes, block_moves, few_rewritten, landed_is, moves_on, on_ok, solved_here, stays_out, tells}
use Rattle.draid_visits.proofs.ToLend.{only_counted, only_moved, only_none, only_scrub}
use Rattle.draid_visits.proofs.Lifting.{goes_later, goes_to, goes_under}
use Rattle.draid_visits.proofs.Over.{ok_as, starved, worn, worn_as}
use Rattle.draid_visits.proofs.Tables.{groups_landed, groups_left, groups_stay, table_landed, table_stays}
use Rattle.draid_visits.proofs.unit.block_in.Goals as goal

pub returns-then-is_err-clause-table : goal.returns-then-is_err-clause-table
returns-then-is_err-clause-table g c =
    let l = c.lend.ensures in
    let unit = l.unit (ok_as c.lend.result c.in-Ok-Unit.field-0 Unit c.in-Ok-Unit.is c.in-Ok-Unit.field-0-is) in
    table_stays c.args.shard.now c.lend.new.shard c.solve.new.shard unit.does.part l.keeps l.arms c.solve.ensures.only

pub returns-then-is_err-clause-groups : goal.returns-then-is_err-clause-groups
returns-then-is_err-clause-groups g c = (let l = c.lend.ensures in groups_stay c.args.shard.now c.lend.new.shard c.solve.new.shard l.keeps l.arms l.reserve c.solve.ensures.only)

pub returns-then-is_err-clause-only : goal.returns-then-is_err-clause-only
returns-then-is_err-clause-only g c =
    let unit = c.lend.ensures.unit (ok_as c.lend.result c.in-Ok-Unit.field-0 Unit c.in-Ok-Unit.is c.in-Ok-Unit.field-0-is) in
    only_counted c.args.shard.now c.lend.new.shard c.solve.new.shard (length unit.failed.items) c.requires.running unit.pass c.solve.ensures.only

pub returns-then-is_err-clause-moves : goal.returns-then-is_err-clause-moves
returns-then-is_err-clause-moves g c = λ part pieces x at.
    (let is = ok_as c.lend.result c.in-Ok-Unit.field-0 Unit c.in-Ok-Unit.is c.in-Ok-Unit.field-0-is in
    let l = c.lend.ensures in
    let s = c.solve.ensures in
    goes_later g.R.Rack g.A.Area part pieces x c.solve.new.shard (λ holds y. NextIs part Heal false next.NoMemory holds × SameBlocks x y)
    (stays_out g.R.Rack g.A.Area c.args.shard.now c.lend.new.shard c.solve.new.shard (l.unit is) l.valid l.areas l.reserve (l.not_worn is) s.valid s.only s.none part pieces x at))

pub returns-then-is_err-clause-goes : goal.returns-then-is_err-clause-goes
returns-then-is_err-clause-goes g c = λ part pieces x at.
    (let is = ok_as c.lend.result c.in-Ok-Unit.field-0 Unit c.in-Ok-Unit.is c.in-Ok-Unit.field-0-is in
    let l = c.lend.ensures in
    let s = c.solve.ensures in
    goes_under g.R.Rack g.A.Area part pieces x c.solve.new.shard (HadContents g.R.Rack g.A.Area part c.args.shard.now x) (NextIs part Heal false next.NoMemory)
    (goes_to g.R.Rack g.A.Area part pieces x c.solve.new.shard (λ holds y. NextIs part Heal false next.NoMemory holds × SameBlocks x y)
    (stays_out g.R.Rack g.A.Area c.args.shard.now c.lend.new.shard c.solve.new.shard (l.unit is) l.valid l.areas l.reserve (l.not_worn is) s.valid s.only s.none part pieces x at)))

pub land-requires-clause-here : goal.land-requires-clause-here
land-requires-clause-here g c =
    let l = c.lend.ensures in
    let s = c.solve.ensures in
    let unit = l.unit (ok_as c.lend.result c.in-Ok-Unit.field-0 Unit c.in-Ok-Unit.is c.in-Ok-Unit.field-0-is) in
    solved_here g.R.Rack c.args.shard.now c.lend.new.shard c.solve.new.shard c.solve.new.shard c.requires.running unit l.valid s.only (on_ok c.solve.result _ (sym c.is_err.ensures.value ∙ c.if-is_err.false) s.solves)

pub returns-else-is_err-clause-table : goal.returns-else-is_err-clause-table
returns-else-is_err-clause-table g c =
    let l = c.lend.ensures in
    let unit = l.unit (ok_as c.lend.result c.in-Ok-Unit.field-0 Unit c.in-Ok-Unit.is c.in-Ok-Unit.field-0-is) in
    let e = c.land.ensures in
    table_landed c.args.shard.now c.lend.new.shard c.solve.new.shard c.land.new.shard unit.does.part l.keeps l.arms c.solve.ensures.only e.lands.does.part e.keeps e.slots

pub returns-else-is_err-clause-groups : goal.returns-else-is_err-clause-groups
returns-else-is_err-clause-groups g c =
    let l = c.lend.ensures in
    let e = c.land.ensures in
    groups_landed c.args.shard.now c.lend.new.shard c.solve.new.shard l.keeps l.arms l.reserve c.solve.ensures.only c.land.new.shard e.keeps e.slots e.reserve

pub returns-else-is_err-clause-only : goal.returns-else-is_err-clause-only
returns-else-is_err-clause-only g c =
    let l = c.lend.ensures in
    let s = c.solve.ensures in
    let unit = l.unit (ok_as c.lend.result c.in-Ok-Unit.field-0 Unit c.in-Ok-Unit.is c.in-Ok-Unit.field-0-is) in
    let e = c.land.ensures in
    only_moved Heal c.args.shard.now c.land.new.shard
    (moves_on g.R.Rack c.args.shard.now c.lend.new.shard c.solve.new.shard c.land.new.shard c.requires.running unit l.valid s.only (on_ok c.solve.result _ (sym c.is_err.ensures.value ∙ c.if-is_err.false) s.solves) e.lands.does.part e.moves)

pub returns-else-is_err-clause-landed : goal.returns-else-is_err-clause-landed
returns-else-is_err-clause-landed g c = λ repaired same.
    (let l = c.lend.ensures in
    let s = c.solve.ensures in
    let unit = l.unit (ok_as c.lend.result c.in-Ok-Unit.field-0 Unit c.in-Ok-Unit.is c.in-Ok-Unit.field-0-is) in
    let e = c.land.ensures in (
      moves_on g.R.Rack c.args.shard.now c.lend.new.shard c.solve.new.shard c.land.new.shard c.requires.running unit l.valid s.only (on_ok c.solve.result _ (sym c.is_err.ensures.value ∙ c.if-is_err.false) s.solves) e.lands.does.part e.moves,
      few_rewritten repaired c.land.result c.min.result (landed_is c.min.result repaired same) c.min.ensures,
    ))

pub returns-else-is_err-clause-tells : goal.returns-else-is_err-clause-tells
returns-else-is_err-clause-tells g c = λ repaired same.
    (let l = c.lend.ensures in
    let s = c.solve.ensures in
    let unit = l.unit (ok_as c.lend.result c.in-Ok-Unit.field-0 Unit c.in-Ok-Unit.is c.in-Ok-Unit.field-0-is) in
    tells g.R.Rack c.args.shard.now c.lend.new.shard c.solve.new.shard c.land.new.shard c.requires.running unit l.valid s.only (on_ok c.solve.result _ (sym c.is_err.ensures.value ∙ c.if-is_err.false) s.solves)
    c.land.result c.land.ensures.lands)

pub returns-else-is_err-clause-moves : goal.returns-else-is_err-clause-moves
returns-else-is_err-clause-moves g c = λ part pieces x at.
    (let is = ok_as c.lend.result c.in-Ok-Unit.field-0 Unit c.in-Ok-Unit.is c.in-Ok-Unit.field-0-is in
    let l = c.lend.ensures in
    let s = c.solve.ensures in
    let e = c.land.ensures in
    block_moves g.R.Rack g.A.Area c.args.shard.now c.lend.new.shard c.solve.new.shard (l.unit is) l.valid l.areas l.reserve (l.not_worn is) s.valid s.only s.none part pieces x at c.land.new.shard
    (on_ok c.solve.result _ (sym c.is_err.ensures.value ∙ c.if-is_err.false) s.solves) c.land.result c.min.result c.min.ensures e.valid e.areas e.lands e.reserve)

pub returns-else-is_err-clause-goes : goal.returns-else-is_err-clause-goes
returns-else-is_err-clause-goes g c = λ part pieces x at.
    (let is = ok_as c.lend.result c.in-Ok-Unit.field-0 Unit c.in-Ok-Unit.is c.in-Ok-Unit.field-0-is in
    let l = c.lend.ensures in
    let s = c.solve.ensures in
    let e = c.land.ensures in
    block_goes g.R.Rack g.A.Area c.args.shard.now c.lend.new.shard c.solve.new.shard (l.unit is) l.valid l.areas l.reserve (l.not_worn is) s.valid s.only s.none part pieces x at c.land.new.shard
    (on_ok c.solve.result _ (sym c.is_err.ensures.value ∙ c.if-is_err.false) s.solves) c.land.result c.min.result c.min.ensures e.valid e.areas e.lands e.reserve)

pub returns-in-Ok-End-clause-groups : goal.returns-in-Ok-End-clause-groups
returns-in-Ok-End-clause-groups g c =
    let end = c.lend.ensures.end (ok_as c.lend.result c.in-Ok-End.field-0 End c.in-Ok-End.is c.in-Ok-End.field-0-is) in
    subst (λ s. KeepsGroups s c.end_in.new.shard) end.1 c.end_in.ensures.groups

pub returns-in-Ok-End-clause-only : goal.returns-in-Ok-End-clause-only
returns-in-Ok-End-clause-only g c = only_none Heal c.end_in.new.shard c.end_in.ensures.over

pub returns-in-Ok-End-clause-moves : goal.returns-in-Ok-End-clause-moves
returns-in-Ok-End-clause-moves g c = λ part pieces x at.
    (let end = c.lend.ensures.end (ok_as c.lend.result c.in-Ok-End.field-0 End c.in-Ok-End.is c.in-Ok-End.field-0-is) in
    goes_later g.R.Rack g.A.Area part pieces x c.end_in.new.shard (λ holds y. NextIs part Heal false (next.Ended c.end_in.result) holds × SameBlocks x y)
    (c.end_in.ensures.goes part pieces x (subst (λ s. IsMetaslab g.R.Rack g.A.Area part pieces s x) (sym end.1) at)))

pub returns-in-Ok-End-clause-goes : goal.returns-in-Ok-End-clause-goes
returns-in-Ok-End-clause-goes g c = λ part pieces x at.
    (let end = c.lend.ensures.end (ok_as c.lend.result c.in-Ok-End.field-0 End c.in-Ok-End.is c.in-Ok-End.field-0-is) in
    goes_under g.R.Rack g.A.Area part pieces x c.end_in.new.shard (HadContents g.R.Rack g.A.Area part c.args.shard.now x) (NextIs part Heal false (next.Ended c.end_in.result))
    (goes_to g.R.Rack g.A.Area part pieces x c.end_in.new.shard (λ holds y. NextIs part Heal false (next.Ended c.end_in.result) holds × SameBlocks x y)
    (c.end_in.ensures.goes part pieces x (subst (λ s. IsMetaslab g.R.Rack g.A.Area part pieces s x) (sym end.1) at))))

pub returns-in-Err-Worn-clause-groups : goal.returns-in-Err-Worn-clause-groups
returns-in-Err-Worn-clause-groups g c = (let l = c.lend.ensures in groups_left c.args.shard.now c.lend.new.shard l.keeps l.arms l.reserve)

pub returns-in-Err-Worn-clause-only : goal.returns-in-Err-Worn-clause-only
returns-in-Err-Worn-clause-only g c = only_scrub c.args.shard.now c.lend.new.shard c.requires.running c.in-Err-Worn.ensures.pass

pub returns-in-Err-Worn-clause-moves : goal.returns-in-Err-Worn-clause-moves
returns-in-Err-Worn-clause-moves g c = λ part pieces x at.
    (let old = c.args.shard.now in
    let why = c.in-Err-Worn in
    let e = why.ensures in
    goes_later g.R.Rack g.A.Area part pieces x c.lend.new.shard (λ holds y. NextIs part Heal false next.Worn holds × SameBlocks x y)
    (worn g.R.Rack g.A.Area part pieces old x at c.lend.new.shard e.valid e.none.none e.kit e.reserve Heal e.more (worn_as old why.field-0 why.field-0-0 e.refused why.field-0-is)))

pub returns-in-Err-Worn-clause-goes : goal.returns-in-Err-Worn-clause-goes
returns-in-Err-Worn-clause-goes g c = λ part pieces x at.
    (let old = c.args.shard.now in
    let why = c.in-Err-Worn in
    let e = why.ensures in
    goes_under g.R.Rack g.A.Area part pieces x c.lend.new.shard (HadContents g.R.Rack g.A.Area part c.args.shard.now x) (NextIs part Heal false next.Worn)
    (goes_to g.R.Rack g.A.Area part pieces x c.lend.new.shard (λ holds y. NextIs part Heal false next.Worn holds × SameBlocks x y)
    (worn g.R.Rack g.A.Area part pieces old x at c.lend.new.shard e.valid e.none.none e.kit e.reserve Heal e.more (worn_as old why.field-0 why.field-0-0 e.refused why.field-0-is))))

pub returns-in-Err-NoMemory-clause-groups : goal.returns-in-Err-NoMemory-clause-groups
returns-in-Err-NoMemory-clause-groups g c = (let l = c.lend.ensures in groups_left c.args.shard.now c.lend.new.shard l.keeps l.arms l.reserve)

pub returns-in-Err-NoMemory-clause-only : goal.returns-in-Err-NoMemory-clause-only
returns-in-Err-NoMemory-clause-only g c = only_scrub c.args.shard.now c.lend.new.shard c.requires.running c.in-Err-NoMemory.ensures.pass

pub returns-in-Err-NoMemory-clause-moves : goal.returns-in-Err-NoMemory-clause-moves
returns-in-Err-NoMemory-clause-moves g c = λ part pieces x at.
    (let old = c.args.shard.now in
    let e = c.in-Err-NoMemory.ensures in
    goes_later g.R.Rack g.A.Area part pieces x c.lend.new.shard (λ holds y. NextIs part Heal false next.NoMemory holds × SameBlocks x y)
    (starved g.R.Rack g.A.Area part pieces old x at c.lend.new.shard e.valid e.none.none e.kit e.reserve Heal e.more))

pub returns-in-Err-NoMemory-clause-goes : goal.returns-in-Err-NoMemory-clause-goes
returns-in-Err-NoMemory-clause-goes g c = λ part pieces x at.
    (let old = c.args.shard.now in
    let e = c.in-Err-NoMemory.ensures in
    goes_under g.R.Rack g.A.Area part pieces x c.lend.new.shard (HadContents g.R.Rack g.A.Area part c.args.shard.now x) (NextIs part Heal false next.NoMemory)
    (goes_to g.R.Rack g.A.Area part pieces x c.lend.new.shard (λ holds y. NextIs part Heal false next.NoMemory holds × SameBlocks x y)
    (starved g.R.Rack g.A.Area part pieces old x at c.lend.new.shard e.valid e.none.none e.kit e.reserve Heal e.more)))

use Rattle.std.proofs.Common.{◌∙◌, Some, ap, arith, subst, sym}
use Rattle.std.proofs.lemmas.Option.{slice_get-get_or}
use Rattle.draid_section.specs.Opening.{EachSplits, MaySplit}
use Rattle.draid_section.proofs.Splitting.{dealing_done, dealing_may, dealing_more, dealing_start}
use Rattle.draid_section.proofs.locks.deal_each.Goals as goal

pub loop-i-init : goal.loop-i-init
loop-i-init g c = dealing_start c.args.turns.now c.args.numbers.now c.args.lanes.items c.args.firsts.now.items c.requires.first c.requires.rooms

pub deal-requires-clause-may : goal.deal-requires-clause-may
deal-requires-clause-may g c =
    subst (λ ns. MaySplit ns c.args.turns.now c.loop-i.firsts.items) (sym c.deref.ensures.value)
    (dealing_may c.args.turns.now c.args.numbers.now c.loop-i.i c.loop-i.lanes.items c.loop-i.firsts.items c.loop-i.invariant c.index-numbers-i.result c.loop-i-test.true c.index-numbers-i.is c.requires.apart c.requires.other)

pub deal-requires-clause-none : goal.deal-requires-clause-none
deal-requires-clause-none g c =
    let r = c.loop-i.invariant in
    let many = r.many in
    let lt = c.loop-i-test.true in
    let lane = c.index_mut.result.now in
    (r.left c.loop-i.i lane (omega arith) (slice_get-get_or c.loop-i.lanes.items c.loop-i.i lane (omega (arith, lt, many)) ∙ ap Some (sym c.index_mut.ensures.value))).0

pub deal-requires-clause-room : goal.deal-requires-clause-room
deal-requires-clause-room g c =
    let r = c.loop-i.invariant in
    let many = r.many in
    let lt = c.loop-i-test.true in
    let lane = c.index_mut.result.now in
    (r.left c.loop-i.i lane (omega arith) (slice_get-get_or c.loop-i.lanes.items c.loop-i.i lane (omega (arith, lt, many)) ∙ ap Some (sym c.index_mut.ensures.value))).1

pub loop-i-preserved : goal.loop-i-preserved
loop-i-preserved g c =
    let splits = subst (λ ns. EachSplits ns c.loop-i.firsts.items c.deal.new.firsts.items c.deal.new.passes.items) c.deref.ensures.value c.deal.ensures in
    dealing_more c.args.turns.now c.args.numbers.now c.loop-i.i c.loop-i.lanes.items c.loop-i.firsts.items c.loop-i.invariant c.index-numbers-i.result c.loop-i-test.true c.index-numbers-i.is c.requires.apart c.deal.new.firsts.items c.deal.new.passes splits

pub returns : goal.returns
returns g c = dealing_done c.args.turns.now c.args.numbers.now c.loop-i.i c.loop-i.lanes.items c.loop-i.firsts.items (let out = c.loop-i-test.false in omega (arith, out)) c.loop-i.invariant

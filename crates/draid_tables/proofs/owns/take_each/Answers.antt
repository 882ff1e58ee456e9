use Rattle.std.proofs.Common.{◌∙◌, Some, ap, arith, subst, sym}
use Rattle.std.proofs.lemmas.Option.{slice_get-get_or}
use Rattle.draid_tables.specs.Owns.{TakesOwn}
use Rattle.draid_tables.proofs.Owning.{takes_end, takes_next, takes_room}
use Rattle.draid_tables.proofs.owns.take_each.Goals as goal

pub take_own-requires-clause-room : goal.take_own-requires-clause-room
take_own-requires-clause-room c =
    let i = c.loop-i.i in
    let list = c.index-numbers-i.result in
    let own = c.index-owns-i.result in
    let many = c.requires.within.many in
    let below = c.loop-i-test.true in
    takes_room c.args.numbers.now c.args.owns.now c.args.own.now i c.loop-i.own c.loop-i.invariant list own
    (slice_get-get_or c.args.numbers.now i list below ∙ ap Some (sym c.index-numbers-i.is))
    (slice_get-get_or c.args.owns.now i own (omega (arith, below, many)) ∙ ap Some (sym c.index-owns-i.is)) c.requires.room

pub loop-i-preserved : goal.loop-i-preserved
loop-i-preserved c =
    let i = c.loop-i.i in
    let list = c.index-numbers-i.result in
    let own = c.index-owns-i.result in
    let many = c.requires.within.many in
    let below = c.loop-i-test.true in
    takes_next c.args.numbers.now c.args.owns.now c.args.own.now i c.loop-i.own c.loop-i.invariant list own
    (slice_get-get_or c.args.numbers.now i list below ∙ ap Some (sym c.index-numbers-i.is))
    (slice_get-get_or c.args.owns.now i own (omega (arith, below, many)) ∙ ap Some (sym c.index-owns-i.is))
    c.requires.apart c.take_own.new.own (subst (λ ns. TakesOwn ns own c.loop-i.own c.take_own.new.own) c.deref.ensures.value c.take_own.ensures.takes) c.take_own.ensures.room c.take_own.ensures.unique

pub returns : goal.returns
returns c = takes_end c.args.numbers.now c.args.owns.now c.args.own.now c.loop-i.i c.loop-i.own c.loop-i.invariant c.requires.within.many (let out = c.loop-i-test.false in omega (arith, out))

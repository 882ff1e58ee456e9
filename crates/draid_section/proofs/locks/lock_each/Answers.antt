use Rattle.std.proofs.Common.{◌∙◌, ◌++◌, ap, arith, reverse, subst, sym}
use Rattle.draid_section.specs.Opening.{AreFirst, AreLocked, shards_under}
use Rattle.draid_section.proofs.Locking.{closed_back, first_own, first_reverse, locked_all, locked_long}
use Rattle.draid_section.proofs.locks.lock_each.Goals as goal

pub returns-then-lock_rest-clause-locked : goal.returns-then-lock_rest-clause-locked
returns-then-lock_rest-clause-locked g c =
    let rest = c.lock_rest.ensures in
    let none = rest.all c.if-lock_rest.true in
    let is = rest.locked ∙ ap (λ ss. ss ++ reverse (shards_under c.lock_rest.new.turns.items)) none in
    subst (λ ps. AreLocked c.args.shards.items c.reverse.new.self.items ps) (sym c.reverse-then-lock_rest.ensures.items)
    (subst (λ ls. AreLocked c.args.shards.items ls (reverse c.lock_rest.new.firsts.items)) (sym c.reverse.ensures.items) (locked_all c.args.shards.items c.lock_rest.new.turns.items c.lock_rest.new.firsts.items is rest.first))

pub returns-then-lock_rest-clause-first : goal.returns-then-lock_rest-clause-first
returns-then-lock_rest-clause-first g c =
    subst (λ ps. AreFirst c.reverse.new.self.items ps) (sym c.reverse-then-lock_rest.ensures.items)
    (subst (λ ls. AreFirst ls (reverse c.lock_rest.new.firsts.items)) (sym c.reverse.ensures.items) (first_reverse c.lock_rest.new.turns.items c.lock_rest.new.firsts.items c.lock_rest.ensures.first))

pub take_back-requires-clause-fits : goal.take_back-requires-clause-fits
take_back-requires-clause-fits g c = first_own c.lock_rest.new.turns.items c.lock_rest.new.firsts.items c.lock_rest.ensures.first

pub take_back-requires-clause-room : goal.take_back-requires-clause-room
take_back-requires-clause-room g c =
    let long = locked_long c.args.shards.items c.lock_rest.new.shards.items c.lock_rest.new.turns.items c.lock_rest.ensures.locked in
    let back = c.lock_rest.ensures.back in
    let is = c.args.shards.ok.0 in
    let within = c.args.shards.ok.1 in omega (arith, long, back, is, within)

pub returns-clause-refused : goal.returns-clause-refused
returns-clause-refused g c =
    closed_back g.R.Rack g.A.Area c.args.shards.items c.lock_rest.new.shards.items c.take_back.result.items c.lock_rest.new.turns.items c.lock_rest.new.firsts.items c.lock_rest.ensures.locked c.lock_rest.ensures.first c.take_back.ensures

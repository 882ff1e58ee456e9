use Rattle.std.proofs.Common.{arith, refl}
use Rattle.draid_shard.proofs.Kept.{stored_more}
use Rattle.draid_passing.proofs.Readied.{ready_in, ready_step, ready_valid, state, waits_for_births, waits_for_groups, waits_for_tickets}
use Rattle.draid_passing.proofs.readying.ready.Goals as goal
use Rattle.draid_passing.proofs.readying.ready.Goals.{then-tickets-gt0-via-then-tickets-gt0, then-tickets-gt0-via-else-tickets-gt0+then-committed-birth, then-tickets-gt0-via-else-tickets-gt0+else-committed-birth+then-committed-max}

pub returns-then-tickets-gt0-clause-illegal : goal.returns-then-tickets-gt0-clause-illegal
returns-then-tickets-gt0-clause-illegal g c = λ w v is step.
    let old = c.args.shard.now in
    let tickets = c.tickets-tickets.ensures w is in
    let births = c.greatest_birth-birth.ensures w is in
    elim c.then-tickets-gt0.branch [
      | then-tickets-gt0-via-then-tickets-gt0 b ↦ waits_for_tickets old w is c.requires.planned _ _ _ tickets births c.max_of-max.ensures b.if-tickets-gt0.true v step
      | then-tickets-gt0-via-else-tickets-gt0+then-committed-birth b ↦ waits_for_births old w is c.requires.planned _ _ _ tickets births c.max_of-max.ensures b.if-committed-birth.true v step
      | then-tickets-gt0-via-else-tickets-gt0+else-committed-birth+then-committed-max b ↦ waits_for_groups old w is c.requires.planned _ _ _ tickets births c.max_of-max.ensures b.if-committed-max.true v step
    ]

pub returns-clause-valid : goal.returns-clause-valid
returns-clause-valid g c =
    let old = c.args.shard.now in
    let e = c.add.ensures in
    ready_valid old c.run.new.pass c.add.new.self c.run.ensures g.R.Rack c.requires.valid c.requires.planned e.owed e.reserved (stored_more old.history c.add.new.self _ e.stored)

pub returns-clause-event : goal.returns-clause-event
returns-clause-event g c =
    let old = c.args.shard.now in
    record {
      part = refl;
      stored = c.add.ensures.stored;
      leads = λ w reached is.
          (let tickets = c.tickets-tickets.ensures w is in
          let births = c.greatest_birth-birth.ensures w is in
          record {
            state = state old c.run.new.pass c.add.new.self c.run.ensures w is c.requires.planned c.tickets-tickets.result c.greatest_birth-birth.result c.max_of-max.result tickets births c.max_of-max.ensures;
            step = ready_step old c.run.new.pass c.add.new.self c.run.ensures w is c.requires.planned c.tickets-tickets.result c.greatest_birth-birth.result c.max_of-max.result tickets births c.max_of-max.ensures
                (let none = c.if-tickets-gt0.false in omega (arith, none)) (let less = c.if-committed-birth.false in omega (arith, less)) (let less = c.if-committed-max.false in omega (arith, less));
            is_in = ready_in old c.run.new.pass c.add.new.self c.run.ensures w is c.requires.planned c.tickets-tickets.result c.greatest_birth-birth.result c.max_of-max.result tickets births c.max_of-max.ensures;
          });
    }

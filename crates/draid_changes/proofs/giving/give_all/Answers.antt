use Rattle.std.proofs.Common.{◌+◌, ◌-◌, ◌∙◌, arith, refl, get_or, length, subst, sym}
use Rattle.std.proofs.lemmas.Option.{slice_get-get_or}
use Rattle.draid_names.specs.declared.journal.Cause.TheVariants.{Offline}
use Rattle.draid_names.specs.declared.journal.Entry.{Entry}
use Rattle.draid_agent.specs.declared.states.Due.{Due}
use Rattle.draid_agent.specs.Policy.{PolicyReturns}
use Rattle.draid_pool.proofs.Rises.{areas_on, areas_still}
use Rattle.draid_changes.proofs.GivenOut.{Given, given_all, given_more, given_none, next_may}
use Rattle.draid_changes.proofs.Spares.{fewer_ready}
use Rattle.draid_changes.proofs.giving.give_all.Goals as goal

abbrev none_due : Due
none_due = record { slot = 0; cause = Offline; logged = 0 }

pub loop-due-init : goal.loop-due-init
loop-due-init g c = record {
  whole = c.requires.whole;
  idle = c.requires.idle;
  ready = λ more all. fewer_ready (length c.args.dues.now) more c.args.pool.now (omega (arith, all)) c.requires.ready;
  room = (let room = c.requires.room in omega (arith, room));
  same = λ object. refl;
  later = areas_still g.A.Area.faults c.args.pool.now;
  given = given_none g.R.Rack g.A.Area (PolicyReturns g.P.Fn c.args.policy.now) c.args.dues.now c.args.pool.now c.args.journal.now.entries c.args.free.items c.requires.free;
}

pub give_one-did-requires : goal.give_one-did-requires
give_one-did-requires g c =
    let l = c.loop-due in
    let i = l.invariant in
    let below = c.loop-due-test.true in
    let dues = c.args.dues.now in
    let due = get_or dues l.due-index none_due in
    let there = slice_get-get_or dues l.due-index none_due below in
    record {
      policy = c.requires.policy;
      whole = i.whole;
      idle = i.idle;
      ready = fewer_ready (length dues - l.due-index) 1 l.pool (omega (arith, below)) (i.ready (length dues - l.due-index) (omega (arith, below)));
      may = next_may g.R.Rack g.A.Area (PolicyReturns g.P.Fn c.args.policy.now) dues c.args.pool.now c.args.journal.now.entries l.due-index due there c.requires.ascend c.requires.slots l.pool l.journal.entries l.free.items i.given;
    }

pub add-requires : goal.add-requires
add-requires g c = (let below = c.loop-due-test.true in let room = c.loop-due.invariant.room in omega (arith, below, room))

pub loop-due-preserved : goal.loop-due-preserved
loop-due-preserved g c =
    let l = c.loop-due in
    let i = l.invariant in
    let below = c.loop-due-test.true in
    let dues = c.args.dues.now in
    let due = get_or dues l.due-index none_due in
    let there = slice_get-get_or dues l.due-index none_due below in
    let one = c.give_one-did.ensures in
    let e : Entry = record { number = length l.journal.entries + 1; slot = due.slot; cause = due.cause; did = c.give_one-did.result } in
    record {
      whole = one.whole;
      idle = one.idle;
      ready = λ more all. one.left more (i.ready (more + 1) (omega (arith, all)));
      room = (let room = i.room in let added = c.add.ensures.room in omega (arith, room, added));
      same = λ object. one.same object ∙ i.same object;
      later = areas_on g.A.Area.faults c.args.pool.now l.pool c.give_one-did.new.pool i.later one.later;
      given = subst (λ after. Given g.R.Rack g.A.Area (PolicyReturns g.P.Fn c.args.policy.now) dues c.args.pool.now c.args.journal.now.entries (l.due-index + 1) c.give_one-did.new.pool after c.give_one-did.new.free.items) (sym c.add.ensures.entries)
          (given_more g.R.Rack g.A.Area (PolicyReturns g.P.Fn c.args.policy.now) dues c.args.pool.now c.args.journal.now.entries l.due-index due there c.requires.ascend c.requires.slots l.pool c.give_one-did.new.pool l.journal.entries
          l.free.items c.give_one-did.new.free.items e i.given (refl, refl, refl) one.gave one.carries);
    }

pub returns : goal.returns
returns g c =
    let l = c.loop-due in
    let i = l.invariant in
    let past = c.loop-due-test.false in
    let most = l.auto.due-index-end in
    record {
      whole = i.whole;
      same = i.same;
      later = i.later;
      idle = i.idle;
      passes = λ m shard there. (i.ready 0 (omega (arith, past, most)) m shard there).pass;
      gave = given_all g.R.Rack g.A.Area (PolicyReturns g.P.Fn c.args.policy.now) c.args.dues.now c.args.pool.now c.args.journal.now.entries l.due-index l.pool l.journal.entries l.free.items i.given past;
    }

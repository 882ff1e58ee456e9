use Rattle.std.proofs.Common.{◌∙◌, List, ap}
use Rattle.std.specs.List.{list_any}
use Rattle.draid_names.specs.declared.journal.Entry.{Entry}
use Rattle.draid_agent.specs.Policy.{PolicyReturns}
use Rattle.draid_pool.proofs.Rises.{areas_on}
use Rattle.draid_changes.proofs.GivenTo.{all_free, all_have_room, gave_some, reserve_stopped, sliced, starved}
use Rattle.draid_changes.specs.Giving.{is_spared}
use Rattle.draid_changes.proofs.agent.give_to.Goals as goal

pub returns-in_default-clause-gave : goal.returns-in_default-clause-gave
returns-in_default-clause-gave g c = (
  c.room.ensures.same,
  starved g.R.Rack g.A.Area (PolicyReturns g.P.Fn c.args.policy.now) c.args.dues.now c.args.pool.now c.args.journal.now.entries,
)

pub returns-in-Err-clause-gave : goal.returns-in-Err-clause-gave
returns-in-Err-clause-gave g c = (
  c.room.ensures.same,
  λ x r.
      reserve_stopped g.R.Rack g.A.Area (PolicyReturns g.P.Fn c.args.policy.now) c.args.dues.now c.args.pool.now c.args.journal.now.entries c.reserve_spares.new.pool c.in-Err.fault c.stopped.result c.stopped.ensures.ends x
      (c.in-Err.ensures.carries x r),
)

pub give_all-requires-clause-slots : goal.give_all-requires-clause-slots
give_all-requires-clause-slots g c = all_have_room c.args.pool.now c.reserve_spares.new.pool c.in_default-reserve_spares.ensures.arms c.args.dues.now c.requires.slots

pub give_all-requires-clause-free : goal.give_all-requires-clause-free
give_all-requires-clause-free g c = all_free c.args.pool.now c.reserve_spares.new.pool c.in_default-reserve_spares.ensures.arms g.R.Rack g.A.Area c.args.free.items c.in_default-reserve_spares.ensures.whole c.requires.free

pub returns-clause-later : goal.returns-clause-later
returns-clause-later g c = areas_on g.A.Area.faults c.args.pool.now c.reserve_spares.new.pool c.give_all.new.pool c.in_default-reserve_spares.ensures.later c.give_all.ensures.later

pub returns-clause-gave : goal.returns-clause-gave
returns-clause-gave g c =
    gave_some g.R.Rack g.A.Area (PolicyReturns g.P.Fn c.args.policy.now) c.args.dues.now c.args.pool.now c.args.journal.now.entries c.reserve_spares.new.pool c.give_all.new.pool c.room.new.self.entries c.give_all.new.journal.entries
    c.some_came.result c.in_default-reserve_spares.ensures.arms c.room.ensures.same c.in_default-reserve_spares.ensures.carries c.give_all.ensures.gave
    (c.some_came.ensures
    ∙ ap (λ (es : List Entry). list_any (λ (e : Entry). is_spared e.did) es)
    (sliced c.entries-first.result.now c.entries.result.now c.room.new.self.entries c.give_all.new.journal.entries c.entries-first.ensures c.entries.ensures))

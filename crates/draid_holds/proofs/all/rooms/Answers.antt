use Rattle.std.proofs.lemmas.Result.{IfOk-from_err}
use Rattle.draid_holds.proofs.all.rooms.Goals as goal

pub returns-in_err-lanes-clause-none : goal.returns-in_err-lanes-clause-none
returns-in_err-lanes-clause-none g c = IfOk-from_err c.from_residual.result _ c.from_residual.ensures.0

pub returns-in_err-lanes-clause-room : goal.returns-in_err-lanes-clause-room
returns-in_err-lanes-clause-room g c = IfOk-from_err c.from_residual.result _ c.from_residual.ensures.0

pub returns-in_err-passes-clause-none : goal.returns-in_err-passes-clause-none
returns-in_err-passes-clause-none g c = IfOk-from_err c.from_residual-in_err-passes.result _ c.from_residual-in_err-passes.ensures.0

pub returns-in_err-passes-clause-room : goal.returns-in_err-passes-clause-room
returns-in_err-passes-clause-room g c = IfOk-from_err c.from_residual-in_err-passes.result _ c.from_residual-in_err-passes.ensures.0

pub returns-in_err-works-clause-none : goal.returns-in_err-works-clause-none
returns-in_err-works-clause-none g c = IfOk-from_err c.from_residual-in_err-works.result _ c.from_residual-in_err-works.ensures.0

pub returns-in_err-works-clause-room : goal.returns-in_err-works-clause-room
returns-in_err-works-clause-room g c = IfOk-from_err c.from_residual-in_err-works.result _ c.from_residual-in_err-works.ensures.0

pub returns-clause-none : goal.returns-clause-none
returns-clause-none g c = (c.in_ok-lanes.ensures.items, c.in_ok-passes.ensures.items, c.in_ok-works.ensures.items)

pub returns-clause-room : goal.returns-clause-room
returns-clause-room g c = (c.in_ok-lanes.ensures.capacity, c.in_ok-passes.ensures.capacity, c.in_ok-works.ensures.capacity)

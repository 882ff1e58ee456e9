use Rattle.draid_slots.proofs.Tables.{on_ok_passed, on_err_always, if_ok_passed}
use Rattle.std.proofs.Common.{sym}
use Rattle.draid_slots.proofs.slots.Slots.detach.Goals as goal

pub returns-clause-moved : goal.returns-clause-moved
returns-clause-moved c = c.moved_since.ensures c.args.self.now c.in_ok-take.ensures.detached.same (sym c.in_ok-take.ensures.count) c.places-before.ensures.places

pub returns-in_err-take-clause-allowed : goal.returns-in_err-take-clause-allowed
returns-in_err-take-clause-allowed c = on_ok_passed _ c.from_residual.result _ c.from_residual.ensures.1

pub returns-in_err-take-clause-detached : goal.returns-in_err-take-clause-detached
returns-in_err-take-clause-detached c = on_ok_passed _ c.from_residual.result _ c.from_residual.ensures.1

pub returns-in_err-take-clause-moved : goal.returns-in_err-take-clause-moved
returns-in_err-take-clause-moved c = if_ok_passed _ c.from_residual.result _ c.from_residual.ensures.1

pub returns-in_err-take-clause-same : goal.returns-in_err-take-clause-same
returns-in_err-take-clause-same c = on_err_always c.from_residual.result _ c.in_err-take.ensures.same

pub returns-clause-allowed : goal.returns-clause-allowed
returns-clause-allowed c = c.in_ok-take.ensures.allowed

pub returns-clause-detached : goal.returns-clause-detached
returns-clause-detached c = c.in_ok-take.ensures.detached

pub take-requires : goal.take-requires
take-requires c = c.requires

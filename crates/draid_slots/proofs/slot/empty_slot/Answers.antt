use Rattle.draid_slots.proofs.Tables.{if_ok_passed}
use Rattle.draid_slots.proofs.slot.empty_slot.Goals as goal

pub returns-in_err-arms : goal.returns-in_err-arms
returns-in_err-arms c = if_ok_passed _ c.from_residual.result _ c.from_residual.ensures.1

pub returns-in_err-logs : goal.returns-in_err-logs
returns-in_err-logs c = if_ok_passed _ c.from_residual-in_err-logs.result _ c.from_residual-in_err-logs.ensures.1

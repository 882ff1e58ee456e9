use Rattle.draid_slots.proofs.Tables.{if_ok_passed}
use Rattle.draid_slots.proofs.slot.new_slot.Goals as goal

pub returns-in_err-slot-clause-paired : goal.returns-in_err-slot-clause-paired
returns-in_err-slot-clause-paired c = if_ok_passed _ c.from_residual.result _ c.from_residual.ensures.1

pub returns-in_err-slot-clause-arms : goal.returns-in_err-slot-clause-arms
returns-in_err-slot-clause-arms c = if_ok_passed _ c.from_residual.result _ c.from_residual.ensures.1

pub returns-in_err-slot-clause-logs : goal.returns-in_err-slot-clause-logs
returns-in_err-slot-clause-logs c = if_ok_passed _ c.from_residual.result _ c.from_residual.ensures.1

pub returns-clause-paired : goal.returns-clause-paired
returns-clause-paired c = c.add_arm.ensures.paired

use Rattle.draid_slots.proofs.Tables.{on_ok_passed}
use Rattle.std.proofs.Common.{arith}
use Rattle.draid_slots.proofs.slot.reserve_logs.Goals as goal

pub index_mut-requires : goal.index_mut-requires
index_mut-requires c = omega arith

pub returns-in_err-reserve-clause-reserved : goal.returns-in_err-reserve-clause-reserved
returns-in_err-reserve-clause-reserved c = on_ok_passed _ c.from_residual.result _ c.from_residual.ensures.1

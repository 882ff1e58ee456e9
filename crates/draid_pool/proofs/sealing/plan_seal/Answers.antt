use Rattle.std.proofs.lemmas.Result.{IfOk-from_err}
use Rattle.draid_pool.proofs.sealing.plan_seal.Goals as goal

pub record_of-requires : goal.record_of-requires
record_of-requires g c = c.requires

pub returns-in_err-made : goal.returns-in_err-made
returns-in_err-made g c = IfOk-from_err c.from_residual.result _ c.from_residual.ensures.0

pub returns-in_err-marks : goal.returns-in_err-marks
returns-in_err-marks g c = IfOk-from_err c.from_residual-in_err-marks.result _ c.from_residual-in_err-marks.ensures.0

pub returns-in_err-leaves : goal.returns-in_err-leaves
returns-in_err-leaves g c = IfOk-from_err c.from_residual-in_err-leaves.result _ c.from_residual-in_err-leaves.ensures.0

pub returns-in_err-failed : goal.returns-in_err-failed
returns-in_err-failed g c = IfOk-from_err c.from_residual-in_err-failed.result _ c.from_residual-in_err-failed.ensures.0

use Rattle.std.proofs.lemmas.Result.{IfOk-from_err}
use Rattle.draid_lines.proofs.Apart.{err_no_ok, failed_no_ok, ok_no_err}
use Rattle.draid_lines.proofs.lines.take_more.Goals as goal

pub returns-in_err-reserve-clause-count : goal.returns-in_err-reserve-clause-count
returns-in_err-reserve-clause-count g c = IfOk-from_err c.from_residual.result _ c.from_residual.ensures.0

pub returns-in_err-reserve-clause-end : goal.returns-in_err-reserve-clause-end
returns-in_err-reserve-clause-end g c is = absurd (failed_no_ok _ _ c.from_residual.ensures.0 is)

pub returns-in-Ok-clause-cause : goal.returns-in-Ok-clause-cause
returns-in-Ok-clause-cause g c is = absurd (ok_no_err is)

pub returns-in-Ok-clause-read : goal.returns-in-Ok-clause-read
returns-in-Ok-clause-read g c _ is = absurd (ok_no_err is)

pub returns-in-Err-clause-count : goal.returns-in-Err-clause-count
returns-in-Err-clause-count g c = tt

pub returns-in-Err-clause-end : goal.returns-in-Err-clause-end
returns-in-Err-clause-end g c is = absurd (err_no_ok is)

use Rattle.draid_script.proofs.Read.{line_inv}
use Rattle.draid_script.proofs.Written.{line_spelled}
use Rattle.draid_script.proofs.laws.lines_are_exact.Goals as goal

pub returns : goal.returns
returns c text command = (line_inv text command, line_spelled text command)

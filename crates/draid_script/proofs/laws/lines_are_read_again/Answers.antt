use Rattle.draid_script.proofs.Written.{line_again}
use Rattle.draid_script.proofs.laws.lines_are_read_again.Goals as goal

pub returns : goal.returns
returns c = line_again

use Rattle.draid_machine.proofs.Logs.{reached_logs}
use Rattle.draid_machine.proofs.laws.logs_are_kept.Goals as goal

pub returns : goal.returns
returns c = reached_logs

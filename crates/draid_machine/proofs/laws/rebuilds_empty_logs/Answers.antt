use Rattle.draid_machine.proofs.Upto.{ended_empty}
use Rattle.draid_machine.proofs.laws.rebuilds_empty_logs.Goals as goal

pub returns : goal.returns
returns c layout state new failed pass name lay reached step is rebuild errors target = ended_empty layout lay state new failed.items pass name reached step is rebuild errors target

use Rattle.draid_words.proofs.Samples.{workload}
use Rattle.draid_words.proofs.laws.workloads_are_taken.Goals as goal

pub returns : goal.returns
returns c = workload

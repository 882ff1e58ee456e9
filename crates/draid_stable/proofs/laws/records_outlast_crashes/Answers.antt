use Rattle.draid_stable.proofs.Lasting.{both_left, has_left, read_again}
use Rattle.draid_stable.proofs.laws.records_outlast_crashes.Goals as goal

pub returns-clause-read : goal.returns-clause-read
returns-clause-read c = read_again

pub returns-clause-stays : goal.returns-clause-stays
returns-clause-stays c = has_left

pub returns-clause-both : goal.returns-clause-both
returns-clause-both c = both_left

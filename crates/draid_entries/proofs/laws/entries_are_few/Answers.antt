use Rattle.draid_entries.proofs.Counted.{few, few_back}
use Rattle.draid_entries.proofs.laws.entries_are_few.Goals as goal

pub returns : goal.returns
returns c t q limit same = (few_back t q limit same, few t q limit same)

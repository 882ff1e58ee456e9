use Rattle.draid_entries.proofs.Owing.{owes, owes_back}
use Rattle.draid_entries.proofs.laws.entries_owe.Goals as goal

pub returns : goal.returns
returns c t q columns owed same = (owes t q columns owed same, owes_back t q columns owed same)

use Rattle.draid_mend.proofs.Counted.{are_many, are_missing}
use Rattle.draid_mend.proofs.laws.missing_columns_are_listed.Goals as goal

pub returns : goal.returns
returns c = record { missing = are_missing; many = are_many }

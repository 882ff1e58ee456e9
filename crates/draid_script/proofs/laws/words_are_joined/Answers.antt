use Rattle.draid_script.proofs.Splits.{joined_again}
use Rattle.draid_script.proofs.laws.words_are_joined.Goals as goal

pub returns : goal.returns
returns c = joined_again

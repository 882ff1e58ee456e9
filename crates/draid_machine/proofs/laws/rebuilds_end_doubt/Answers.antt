use Rattle.draid_machine.proofs.Mended.{doubt_ends}
use Rattle.draid_machine.proofs.laws.rebuilds_end_doubt.Goals as goal

pub returns : goal.returns
returns c = λ layout state new pass serial failed loan segment step lent is trusted. doubt_ends layout state new pass serial failed.items loan segment step lent is trusted

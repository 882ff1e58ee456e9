use Rattle.std.proofs.Common.{refl}
use Rattle.draid_restore.proofs.Units.{nothing_left}
use Rattle.draid_restore.proofs.loans.lend.Goals as goal

pub returns-in-None-clause-end : goal.returns-in-None-clause-end
returns-in-None-clause-end g c = λ e. (nothing_left c.args.shard.now c.in-None.ensures.none c.requires.running, refl)

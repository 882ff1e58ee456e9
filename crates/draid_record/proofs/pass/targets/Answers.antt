use Rattle.std.proofs.Common.{refl}
use Rattle.draid_record.proofs.Steps.{number_ok}
use Rattle.draid_record.proofs.pass.targets.Goals as goal

pub returns : goal.returns
returns c = number_ok 2 _ _ _ _ _ _ _ _ _ (λ targets. targets.items) c.targets_of.result refl c.arm_count.ensures c.number-count.ensures.reads c.targets_of.ensures

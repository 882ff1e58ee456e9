use Rattle.std.proofs.Common.{refl}
use Rattle.draid_record.specs.Record.{told_slot}
use Rattle.draid_record.proofs.Steps.{number_ok}
use Rattle.draid_record.proofs.arm.slot.Goals as goal

pub returns-clause-slot : goal.returns-clause-slot
returns-clause-slot c = number_ok 1 _ _ _ _ _ _ _ _ _ (λ arms. told_slot arms.items) c.arms.result refl refl c.number-count.ensures.reads c.arms.ensures.arms

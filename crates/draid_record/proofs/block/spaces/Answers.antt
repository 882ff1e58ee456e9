use Rattle.std.proofs.Common.{refl}
use Rattle.draid_record.proofs.Steps.{number_ok}
use Rattle.draid_record.proofs.block.spaces.Goals as goal

pub returns-clause-runs : goal.returns-clause-runs
returns-clause-runs c = number_ok 4 _ _ _ _ _ _ _ _ _ (λ runs. runs.items) c.space_runs.result refl c.from.ensures c.number-count.ensures.reads c.space_runs.ensures.runs

use Rattle.std.proofs.Common.{take}
use Rattle.draid_plans.specs.Logs.{Fills, has_place}
use Rattle.draid_plans.proofs.logs.fill_logs.Given as goal

abbrev pub invariant-loop-target : goal.invariant-loop-target
invariant-loop-target l = Fills l.initial.slots l.slots (has_place (take l.target-index l.targets)) l.upto

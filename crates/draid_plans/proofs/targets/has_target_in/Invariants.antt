use Rattle.std.proofs.Common.{◌≡◌, [], filter}
use Rattle.draid_plans.specs.Targets.{is_target, places_in}
use Rattle.draid_plans.proofs.targets.has_target_in.Given as goal

abbrev pub invariant-loop-arm : goal.invariant-loop-arm
invariant-loop-arm l = filter (is_target l.slots l.marks l.kind) (places_in l.slot l.arm) ≡ []

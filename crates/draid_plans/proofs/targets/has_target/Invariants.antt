use Rattle.std.proofs.Common.{◌≡◌, [], filter}
use Rattle.draid_plans.specs.Targets.{is_target, places_below}
use Rattle.draid_plans.proofs.targets.has_target.Given as goal

abbrev pub invariant-loop-slot : goal.invariant-loop-slot
invariant-loop-slot l = filter (is_target l.slots l.marks l.kind) (places_below l.slots l.slot) ≡ []

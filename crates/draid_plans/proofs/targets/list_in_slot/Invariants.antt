use Rattle.std.proofs.Common.{◌≡◌, ◌++◌, filter, vec_capacity}
use Rattle.draid_plans.specs.Targets.{is_target, places_in}
use Rattle.draid_plans.proofs.targets.list_in_slot.Given as goal

abbrev pub invariant-loop-arm : goal.invariant-loop-arm
invariant-loop-arm l = record {
  listed : l.targets.items ≡ l.initial.targets.items ++ filter (is_target l.slots l.marks l.kind) (places_in l.slot l.arm);
  room : vec_capacity l.targets ≡ vec_capacity l.initial.targets;
}

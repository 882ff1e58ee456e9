use Rattle.std.proofs.Common.{◌≡◌, ◌*◌, ◌≤◌, filter, length, vec_capacity}
use Rattle.draid_plans.specs.Targets.{is_target, places_below}
use Rattle.draid_plans.proofs.targets.list_targets.Given as goal

abbrev pub invariant-loop-slot : goal.invariant-loop-slot
invariant-loop-slot l = record {
  listed : l.targets.items ≡ filter (is_target l.slots l.marks l.kind) (places_below l.slots l.slot);
  few : length l.targets.items ≤ 3 * l.slot;
  room : vec_capacity l.targets ≡ vec_capacity l.initial.targets;
}

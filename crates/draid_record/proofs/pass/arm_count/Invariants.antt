use Rattle.std.proofs.Common.{◌≡◌, ◌≤◌, ◌+◌, ◌*◌, drop}
use Rattle.draid_record.specs.Record.{arm_count, told_slots}
use Rattle.draid_record.proofs.pass.arm_count.Given as goal

abbrev pub invariant-loop-list : goal.invariant-loop-list
invariant-loop-list l = record {
  rest : l.count + arm_count (told_slots (drop l.list-index l.all)) ≡ arm_count (told_slots l.all);
  small : l.count ≤ 3 * l.list-index;
}

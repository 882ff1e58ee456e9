use Rattle.std.proofs.Common.{◌≡◌, ◌≤◌, ◌+◌, ◌*◌, ◌^◌, drop}
use Rattle.draid_record.specs.Record.{told_slot}
use Rattle.draid_stable.specs.Opening as spec
use Rattle.draid_stable.proofs.leaves.arms_len.Given as goal

abbrev pub invariant-loop-log : goal.invariant-loop-log
invariant-loop-log l = record {
  sum : l.len + spec.arms_len (told_slot (drop l.log-index l.list)) ≡ spec.arms_len (told_slot l.list);
  low : l.len ≤ l.log-index * 2 ^ 37;
}

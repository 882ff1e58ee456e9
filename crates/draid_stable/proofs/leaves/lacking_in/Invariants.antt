use Rattle.std.proofs.Common.{◌≡◌, ◌≤◌, ◌+◌, ◌*◌, ◌^◌, drop}
use Rattle.draid_record.specs.Record.{told_slot}
use Rattle.draid_stable.specs.Opening as spec
use Rattle.draid_stable.proofs.leaves.lacking_in.Given as goal

abbrev pub invariant-loop-arm : goal.invariant-loop-arm
invariant-loop-arm g l = let there = spec.has_leaf (g.R.Rack.shape l.rack) l.sectors in record {
  same : spec.lacking_in there l.from (told_slot l.list) ≡ spec.lacking_in there l.place (told_slot (drop l.arm-index l.list));
  low : l.place ≤ l.from + l.arm-index * 2 ^ 37;
}

use Rattle.std.proofs.Common.{◌≡◌, ◌≤◌, ◌+◌, ◌*◌, ◌^◌, drop}
use Rattle.draid_record.specs.Record.{told_slots}
use Rattle.draid_record.specs.declared.sizes.TheConstants.{SLOTS_AT}
use Rattle.draid_stable.specs.Opening as spec
use Rattle.draid_stable.proofs.leaves.lacking.Given as goal

abbrev pub invariant-loop-list : goal.invariant-loop-list
invariant-loop-list g l = let there = spec.has_leaf (g.R.Rack.shape l.rack) l.sectors in record {
  same : spec.lacking_from there SLOTS_AT (told_slots l.lists) ≡ spec.lacking_from there l.place (told_slots (drop l.list-index l.lists));
  low : l.place ≤ 22 + l.list-index * 2 ^ 39;
}

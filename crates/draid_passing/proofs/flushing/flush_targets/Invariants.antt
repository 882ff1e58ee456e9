use Rattle.std.proofs.Common.{◌≡◌, ◌*◌, ◌≤◌, length, vec_capacity}
use Rattle.draid_rack.specs.Rack.{OnBothTold}
use Rattle.draid_columns.specs.Flushes.{CountsFailed, FlushesBut}
use Rattle.draid_passing.specs.Flushing.{due_below}
use Rattle.draid_passing.proofs.flushing.flush_targets.Given as goal

abbrev pub invariant-loop-place : goal.invariant-loop-place
invariant-loop-place g l = let rack = g.R.Rack in record {
  shape : rack.shape l.rack ≡ rack.shape l.initial.rack;
  few : length l.failed.items ≤ l.place;
  room : 3 * l.slots.geometry.spec.children ≤ vec_capacity l.failed;
  told : OnBothTold (rack.told l.initial.rack) (rack.told l.rack) (FlushesBut (due_below l.slots l.targets l.place) l.failed.items);
  cause : CountsFailed (due_below l.slots l.targets l.place) l.failed.items (rack.faults l.initial.rack) (rack.faults l.rack);
}

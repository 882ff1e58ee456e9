use Rattle.std.proofs.Common.{◌≡◌, vec_capacity, vec_len}
use Rattle.draid_section.proofs.Sitting.{Seating}
use Rattle.draid_section.proofs.seats.seat_each.Given as goal

abbrev pub decreases-lanes : goal.decreases-lanes
decreases-lanes g l = vec_len l.shares.passes

abbrev pub invariant-lanes : goal.invariant-lanes
invariant-lanes g l = record {
  seating : Seating l.turns l.uber l.geometry l.initial.shares l.initial.passes.items l.shares l.passes.items l.seats.items;
  capacity : vec_capacity l.shares.passes ≡ vec_capacity l.initial.shares.passes;
  owns : vec_capacity l.shares.owns ≡ vec_capacity l.initial.shares.owns;
  jobs : vec_capacity l.shares.jobs ≡ vec_capacity l.initial.shares.jobs;
  ubers : vec_capacity l.passes ≡ vec_capacity l.initial.passes;
  room : vec_capacity l.seats ≡ vec_capacity l.initial.seats;
}

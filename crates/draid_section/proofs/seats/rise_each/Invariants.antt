use Rattle.std.proofs.Common.{◌≡◌, vec_capacity, vec_len}
use Rattle.draid_section.proofs.Sitting.{Rising}
use Rattle.draid_section.proofs.seats.rise_each.Given as goal

abbrev pub decreases-seats : goal.decreases-seats
decreases-seats g l = vec_len l.seats

abbrev pub invariant-seats : goal.invariant-seats
invariant-seats g l = record {
  rising : Rising l.initial.seats.items l.seats.items l.shares l.passes.items;
  capacity : vec_capacity l.shares.passes ≡ vec_capacity l.initial.shares.passes;
  owns : vec_capacity l.shares.owns ≡ vec_capacity l.initial.shares.owns;
  jobs : vec_capacity l.shares.jobs ≡ vec_capacity l.initial.shares.jobs;
  ubers : vec_capacity l.passes ≡ vec_capacity l.initial.passes;
}

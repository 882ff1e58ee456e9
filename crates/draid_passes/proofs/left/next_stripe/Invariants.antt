use Rattle.draid_world.specs.World.{held_in, pass_of}
use Rattle.draid_passes.proofs.Lefts.{Covers, IsLeast}
use Rattle.draid_passes.proofs.Walks.{Walked}
use Rattle.draid_passes.proofs.left.next_stripe.Given as goal

abbrev pub invariant-loop-block : goal.invariant-loop-block
invariant-loop-block l = record {
  walked : Walked (Covers (pass_of l.pass) l.first) l.held.entries l.block-iterator;
  least : IsLeast (held_in l.held.entries) (pass_of l.pass) l.first;
}

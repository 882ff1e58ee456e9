use Rattle.std.proofs.Common.{◌≤◌, ◌≡◌, length}
use Rattle.draid_shelf.specs.Shelf.{most_metaslabs}
use Rattle.draid_pool.proofs.Returned.{Giving, GivingLeaves}
use Rattle.draid_pool.proofs.returning.give_back.Given as goal

abbrev pub invariant-loop-shard : goal.invariant-loop-shard
invariant-loop-shard g l = let shelf = g.H.Shelf in record {
  giving : Giving g.H.R.Rack g.H.A.Area l.fn.shards.items l.left.items (shelf.told l.initial.shelf) (shelf.told l.shelf) (shelf.counts l.initial.shelf) (shelf.counts l.shelf);
  leaves : GivingLeaves g.H.R.Rack g.H.A.Area l.fn.shards.items l.left.items (shelf.leaves l.initial.shelf) (shelf.leaves l.shelf);
  few : length l.left.items ≤ most_metaslabs;
  uber : shelf.uber_count l.shelf ≡ shelf.uber_count l.initial.shelf;
  checks : shelf.check_counts l.shelf ≡ shelf.check_counts l.initial.shelf;
  faults : shelf.faults l.shelf ≡ shelf.faults l.initial.shelf;
}

abbrev pub decreases-loop-shard : goal.decreases-loop-shard
decreases-loop-shard g l = length l.left.items

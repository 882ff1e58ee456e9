use Rattle.std.proofs.Common.{◌≡◌, ◌≤◌}
use Rattle.std.specs.Prelude.{vec_capacity}
use Rattle.draid_create.proofs.Opened.{Opening}
use Rattle.draid_create.proofs.opening.open_shards.Given as goal

-- the metaslabs so far are open
abbrev pub invariant-loop-number : goal.invariant-loop-number
invariant-loop-number g l = let shelf = g.H.Shelf in record {
  opening : Opening g.H.R.Rack g.H.A.Area l.layout l.perms l.number (shelf.leaves l.initial.shelf) (shelf.leaves l.shelf) (shelf.told l.initial.shelf) (shelf.told l.shelf)
      (shelf.counts l.initial.shelf) (shelf.counts l.shelf) l.shards.items;
  room : l.layout.props.metaslabs ≤ vec_capacity l.shards;
  bound : l.number ≤ l.layout.props.metaslabs;
  uber : shelf.uber_count l.shelf ≡ shelf.uber_count l.initial.shelf;
  checks : shelf.check_counts l.shelf ≡ shelf.check_counts l.initial.shelf;
  later : shelf.faults l.initial.shelf ≤ shelf.faults l.shelf;
}

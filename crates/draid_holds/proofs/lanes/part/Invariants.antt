use Rattle.std.proofs.Common.{◌+◌, ◌≤◌, length, vec_capacity, vec_len}
use Rattle.std.specs.Vec.Iter.{into_iter_items}
use Rattle.draid_holds.proofs.Parts.{Parting}
use Rattle.draid_holds.proofs.lanes.part.Given as goal

abbrev pub invariant-lanes : goal.invariant-lanes
invariant-lanes g l =
    (goal.iterator-lanes g).can_next l.lane-iterator
    × (goal.iterator-lanes g).is_finite l.lane-iterator
    × Parting l.fn.lanes.items (into_iter_items l.lane-iterator) l.passes.items l.works.items
    × (vec_len l.passes + length (into_iter_items l.lane-iterator) ≤ vec_capacity l.passes)
    × (vec_len l.works + length (into_iter_items l.lane-iterator) ≤ vec_capacity l.works)

use Rattle.std.proofs.Common.{◌≡◌, ◌++◌, map, vec_capacity, vec_len}
use Rattle.std.specs.Vec.Iter.{into_iter_items}
use Rattle.draid_holds.specs.Lanes.{pass_of, work_of}
use Rattle.draid_holds.proofs.Splits.{Splitting}
use Rattle.draid_holds.proofs.all.split_lanes.Given as goal

abbrev pub invariant-works : goal.invariant-works
invariant-works g l =
    (goal.iterator-works g).can_next l.work-iterator
    × (goal.iterator-works g).is_finite l.work-iterator
    × Splitting l.initial.first l.numbers (vec_len l.lanes) (map pass_of l.lanes.items) l.first
    × (l.fn.works.items ≡ map work_of l.lanes.items ++ into_iter_items l.work-iterator)
    × (vec_capacity l.lanes ≡ vec_capacity l.initial.lanes)

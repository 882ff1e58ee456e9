use Rattle.std.proofs.Common.{◌+◌, ◌≤◌, length, vec_capacity, vec_len}
use Rattle.std.specs.Vec.Iter.{into_iter_items}
use Rattle.draid_program.proofs.JobsMade.{Making}
use Rattle.draid_program.proofs.lanes.jobs_of.Given as goal

abbrev pub invariant-loop-lines : goal.invariant-loop-lines
invariant-loop-lines g l =
    (goal.iterator-loop-lines g).can_next l.lines-iterator
    × (goal.iterator-loop-lines g).is_finite l.lines-iterator
    × Making l.fn.chooser l.fn.lanes.items (into_iter_items l.lines-iterator) l.jobs.items
    × (vec_len l.jobs + length (into_iter_items l.lines-iterator) ≤ vec_capacity l.jobs)

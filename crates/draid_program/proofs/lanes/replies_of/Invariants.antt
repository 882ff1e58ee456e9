use Rattle.std.proofs.Common.{◌+◌, ◌≤◌, length, vec_capacity, vec_len}
use Rattle.std.specs.Vec.Iter.{into_iter_items}
use Rattle.draid_program.proofs.JobsMade.{Telling}
use Rattle.draid_program.proofs.lanes.replies_of.Given as goal

abbrev pub invariant-loop-job : goal.invariant-loop-job
invariant-loop-job g l =
    (goal.iterator-loop-job g).can_next l.job-iterator
    × (goal.iterator-loop-job g).is_finite l.job-iterator
    × Telling l.fn.jobs.items (into_iter_items l.job-iterator) l.ran.items
    × (vec_len l.ran + length (into_iter_items l.job-iterator) ≤ vec_capacity l.ran)

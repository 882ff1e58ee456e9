use Rattle.std.proofs.Common.{vec_len}
use Rattle.draid_section.proofs.Unlocking.{Taking}
use Rattle.draid_section.proofs.locks.join_lane.Given as goal

abbrev pub decreases-passes : goal.decreases-passes
decreases-passes g l = vec_len l.passes

abbrev pub invariant-passes : goal.invariant-passes
invariant-passes g l = Taking l.initial.firsts.items l.initial.passes.items l.passes.items l.firsts.items

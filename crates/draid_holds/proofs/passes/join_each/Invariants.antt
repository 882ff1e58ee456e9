use Rattle.std.proofs.Common.{vec_len}
use Rattle.draid_holds.proofs.Joins.{Joining}
use Rattle.draid_holds.proofs.passes.join_each.Given as goal

abbrev pub decreases-passes : goal.decreases-passes
decreases-passes g l = vec_len l.passes

abbrev pub invariant-passes : goal.invariant-passes
invariant-passes g l = Joining l.initial.first l.initial.passes.items l.passes.items l.first

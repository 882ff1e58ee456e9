use Rattle.draid_turn.specs.Numbers.{holds}
use Rattle.draid_works.specs.Job.{MayAllBeGiven}
use Rattle.draid_tests_lanes.proofs.ready.lines_of.Given as goal

abbrev pub invariant-loop-text : goal.invariant-loop-text
invariant-loop-text l = MayAllBeGiven (λ n. holds n l.fn.numbers) l.lines.items

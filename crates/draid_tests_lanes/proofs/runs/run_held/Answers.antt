use Rattle.std.proofs.Common.{List, subst}
use Rattle.std.specs.declared.vec.Vec.{Vec}
use Rattle.std.specs.declared.alloc.Global.{Global}
use Rattle.draid_turn.specs.declared.span.Span.{Span}
use Rattle.draid_tests_lanes.specs.Ready.{AreReady}
use Rattle.draid_tests_lanes.proofs.runs.run_held.Goals as goal

pub run_jobs-requires-clause-ready : goal.run_jobs-requires-clause-ready
run_jobs-requires-clause-ready g c κs within = subst (λ (lists : List (Vec Span Global)). AreReady g.F.Fn lists c.in-Some.jobs.items) c.deref.ensures.value c.in-Some.ensures.ready

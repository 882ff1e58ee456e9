use Rattle.std.proofs.Common.{◌∙◌, ap, sym}
use Rattle.draid_checkpoint.specs.Check.{Point}
use Rattle.draid_tests_lanes.proofs.Given.{may_do}
use Rattle.draid_tests_lanes.proofs.runs.run_jobs.Goals as goal

pub run_in_lanes-pool-requires-clause-may : goal.run_in_lanes-pool-requires-clause-may
run_in_lanes-pool-requires-clause-may g c κs within = record {
  unpointed = sym (c.group.ensures ∙ ap (λ (p : Point). p.group) c.point.ensures) ∙ c.in_default.is;
  each = λ i job lane begins. (record { shared = c.type_bounds.sync-W.shared }, may_do g.R.Rack g.A.Area g.F.Fn c.args.pool c.args.numbers.items c.args.jobs.items i job lane c.requires.whole c.requires.ready begins);
}

pub run_in_lanes-pool-requires-clause-keeps : goal.run_in_lanes-pool-requires-clause-keeps
run_in_lanes-pool-requires-clause-keeps g c κs within job lane done next needed does = record { whole = does.leaves.whole; same = does.leaves.same; numbers = does.leaves.numbers }

use Rattle.std.proofs.Common.{◌∙◌, ap, sym}
use Rattle.draid_checkpoint.specs.Check.{Point}
use Rattle.draid_tests_lanes.proofs.meeting.lanes_meet.Goals as goal

pub run_in_lanes-pool-requires-clause-may : goal.run_in_lanes-pool-requires-clause-may
run_in_lanes-pool-requires-clause-may g c κs within = record {
  unpointed = sym (c.group.ensures ∙ ap (λ (p : Point). p.group) c.point.ensures) ∙ c.in_default-group.is;
  each = λ i job lane begins. begins.whole;
}

pub run_in_lanes-pool-requires-clause-keeps : goal.run_in_lanes-pool-requires-clause-keeps
run_in_lanes-pool-requires-clause-keeps g c κs within job lane done next needed does = record { whole = does.whole; same = does.same; numbers = does.numbers }

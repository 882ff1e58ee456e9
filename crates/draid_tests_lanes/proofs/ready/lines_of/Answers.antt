use Rattle.std.proofs.Common.{refl}
use Rattle.draid_turn.specs.Numbers.{holds}
use Rattle.draid_tests_lanes.proofs.Given.{given_more}
use Rattle.draid_tests_lanes.proofs.ready.lines_of.Goals as goal

pub loop-text-preserved : goal.loop-text-preserved
loop-text-preserved c =
    given_more (λ n. holds n c.args.numbers.now) c.loop-text.lines.items c.push.new.self.items c.in-Ok.line c.loop-text.invariant (record { of_lane = c.if-not-is_of_lane.ensures refl; range = c.in-Ok.ensures.range }) c.in-Ok-push.ensures.items

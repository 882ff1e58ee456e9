use Rattle.std.proofs.lemmas.Option.{slice_get-get_or}
use Rattle.draid_tests_lanes.proofs.Given.{one_has}
use Rattle.draid_tests_lanes.proofs.ready.holds_from.Goals as goal

pub returns-then-count-span : goal.returns-then-count-span
returns-then-count-span c = λ _. one_has c.args.numbers.now c.loop-i.i _ c.args.first c.args.count (slice_get-get_or c.args.numbers.now c.loop-i.i _ c.loop-i-test.true) c.requires c.if-span-first.true c.if-first-span.true c.if-count-span.true

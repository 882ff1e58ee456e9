use Rattle.std.proofs.Common.{arith}
use Rattle.draid_ranges.proofs.Within.{no_run}
use Rattle.draid_ranges.proofs.Halves.{found_none, halved_cost, halved_first, halved_high, halved_low}
use Rattle.draid_ranges.proofs.find.find.Goals as goal

pub loop-low-init : goal.loop-low-init
loop-low-init g c = halved_first c.args.runs.now c.args.x c.args.steps.now

pub loop-low-preserved-in-Less : goal.loop-low-preserved-in-Less
loop-low-preserved-in-Less g c = halved_low c.args.runs.now c.args.x c.loop-low.low c.loop-low.high c.args.steps.now c.loop-low.steps c.place.new.steps c.requires c.loop-low.invariant c.loop-low-test.true c.place.ensures.step no_run (c.place.ensures.before c.in-Less.is)

pub returns-in-Equal-clause-cost : goal.returns-in-Equal-clause-cost
returns-in-Equal-clause-cost g c = halved_cost c.args.runs.now c.args.x c.loop-low.low c.loop-low.high c.args.steps.now c.loop-low.steps c.place.new.steps c.requires c.loop-low.invariant c.loop-low-test.true c.place.ensures.step

pub loop-low-preserved : goal.loop-low-preserved
loop-low-preserved g c = halved_high c.args.runs.now c.args.x c.loop-low.low c.loop-low.high c.args.steps.now c.loop-low.steps c.place.new.steps c.requires c.loop-low.invariant c.loop-low-test.true c.place.ensures.step no_run (c.place.ensures.behind c.in-Greater.is)

pub returns-clause-found : goal.returns-clause-found
returns-clause-found g c = found_none c.args.runs.now c.args.x c.loop-low.low c.loop-low.high c.args.steps.now c.loop-low.steps c.loop-low.invariant (omega (arith, c.loop-low-test.false))

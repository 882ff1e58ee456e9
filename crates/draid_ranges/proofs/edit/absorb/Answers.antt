use Rattle.std.proofs.Common.{arith, ◌+◌, ◌^◌}
use Rattle.draid_ranges.specs.Runs.{end_of}
use Rattle.draid_ranges.proofs.Hulls.{hull_more}
use Rattle.draid_ranges.proofs.Within.{behind_at, end_below, no_run}
use Rattle.draid_ranges.proofs.edit.absorb.Goals as goal

pub returns-then-runs-to-clause-apart : goal.returns-then-runs-to-clause-apart
returns-then-runs-to-clause-apart c = behind_at c.args.runs.now c.loop-to.to 0 (2 ^ 48 + 1) (end_of c.loop-to.whole + 1) no_run c.requires.apart c.loop-to-test.true (omega arith)

pub joined-whole-requires-clause-below : goal.joined-whole-requires-clause-below
joined-whole-requires-clause-below c =
    let bound = end_below c.args.runs.now c.loop-to.to 0 (2 ^ 48 + 1) no_run c.requires.apart c.loop-to-test.true in
    let whole = c.loop-to.invariant.below in
    (omega arith, omega arith)

pub loop-to-preserved : goal.loop-to-preserved
loop-to-preserved c =
    hull_more c.args.runs.now c.args.from c.loop-to.to c.args.run c.loop-to.whole c.joined-whole.result no_run c.loop-to.invariant c.requires.apart c.loop-to-test.true
    c.joined-whole.ensures.members c.joined-whole.ensures.first c.joined-whole.ensures.end

use Rattle.std.proofs.Common.{arith, ◌+◌, ◌^◌}
use Rattle.draid_ranges.proofs.Within.{end_below, ends_from, more_before, no_run}
use Rattle.draid_ranges.proofs.edit.ending_before.Goals as goal

pub end-requires : goal.end-requires
end-requires c = let h = end_below c.args.runs.now c.loop-at.at 0 (2 ^ 48 + 1) no_run c.requires c.loop-at-test.true in omega arith

pub returns-then-end-bound-clause-behind : goal.returns-then-end-bound-clause-behind
returns-then-end-bound-clause-behind c = ends_from c.args.runs.now c.loop-at.at 0 (2 ^ 48 + 1) c.args.bound no_run c.requires c.loop-at-test.true (omega arith)

pub loop-at-preserved : goal.loop-at-preserved
loop-at-preserved c = more_before c.args.runs.now c.loop-at.at 0 (2 ^ 48 + 1) c.args.bound no_run c.requires c.loop-at-test.true (omega arith)

use Rattle.std.proofs.Common.{arith}
use Rattle.draid_ranges.proofs.Meets.{met_left, met_right}
use Rattle.draid_ranges.proofs.Within.{end_below, no_run, within_wider}
use Rattle.draid_ranges.proofs.merge.met.Goals as goal

pub push_common-requires : goal.push_common-requires
push_common-requires c =
    let l = end_below c.args.left.now c.loop-i.i 0 281474976710657 no_run c.requires.left c.loop-i-test.true in
    let r = end_below c.args.right.now c.loop-i.j 0 281474976710657 no_run c.requires.right c.if-j-right.true in
    record { below = (omega arith, omega arith) }

pub end-requires : goal.end-requires
end-requires c = let l = end_below c.args.left.now c.loop-i.i 0 281474976710657 no_run c.requires.left c.loop-i-test.true in omega arith

pub end-requires-in-loop-i : goal.end-requires-in-loop-i
end-requires-in-loop-i c = let r = end_below c.args.right.now c.loop-i.j 0 281474976710657 no_run c.requires.right c.if-j-right.true in omega arith

pub loop-i-preserved-then-end : goal.loop-i-preserved-then-end
loop-i-preserved-then-end c =
    met_left c.args.left.now c.args.right.now c.loop-i.runs.items c.push_common.new.runs.items c.loop-i.i c.loop-i.j no_run c.loop-i.invariant c.requires.left c.requires.right
    c.loop-i-test.true c.if-j-right.true c.in_ok-push_common.ensures (omega arith)

pub loop-i-preserved : goal.loop-i-preserved
loop-i-preserved c =
    met_right c.args.left.now c.args.right.now c.loop-i.runs.items c.push_common.new.runs.items c.loop-i.i c.loop-i.j no_run c.loop-i.invariant c.requires.left c.requires.right
    c.loop-i-test.true c.if-j-right.true c.in_ok-push_common.ensures (omega arith)

pub returns-clause-apart : goal.returns-clause-apart
returns-clause-apart c = within_wider c.loop-i.runs.items 0 c.loop-i.invariant.bound 0 281474976710657 c.loop-i.invariant.apart (omega arith) c.loop-i.invariant.low

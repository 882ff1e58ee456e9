use Rattle.draid_ranges.proofs.Unions.{united_more}
use Rattle.draid_ranges.proofs.merge.united.Goals as goal

pub loop-i-preserved : goal.loop-i-preserved
loop-i-preserved c =
    united_more c.args.left.now c.args.right.now c.loop-i.runs.items c.extend.new.runs.items c.loop-i.i c.loop-i.j c.next_run-next_i.result.1 c.next_run-next_i.result.2 c.next_run-next_i.result.0
    c.loop-i.invariant c.next_run-next_i.ensures c.in_ok-extend.ensures.apart c.in_ok-extend.ensures.order c.in_ok-extend.ensures.members

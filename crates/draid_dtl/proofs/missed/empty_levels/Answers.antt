use Rattle.std.proofs.Common.{arith}
use Rattle.draid_dtl.proofs.Levels.{empty_more}
use Rattle.draid_dtl.proofs.missed.empty_levels.Goals as goal

pub loop-preserved : goal.loop-preserved
loop-preserved c =
    let items = c.in_ok-push.ensures.items in
    let was = c.loop.invariant.0 in
    let len = c.in_ok-push.ensures.len in
    (omega (arith, was, len), empty_more c.loop.levels.items c.push.new.self.items c.new.result items c.new.ensures c.loop.invariant.1)

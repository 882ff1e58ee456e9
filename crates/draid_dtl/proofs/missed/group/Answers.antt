use Rattle.std.proofs.Common.{◌∙◌, arith}
use Rattle.draid_dtl.proofs.Levels.{few_miss, no_levels, levels_more, last_misses}
use Rattle.draid_dtl.proofs.missed.group.Goals as goal

pub returns-then-logs-parity : goal.returns-then-logs-parity
returns-then-logs-parity c = λ x. c.new.ensures x ∙ few_miss c.args.parity c.args.logs.now x (omega arith)

pub loop-log-init : goal.loop-log-init
loop-log-init c = (c.in_ok-levels.ensures.len, no_levels c.in_ok-levels.levels.items c.in_ok-levels.ensures.empty)

pub loop-log-preserved : goal.loop-log-preserved
loop-log-preserved c = (
  c.in_ok-raise.ensures.len ∙ c.loop-log.invariant.0,
  levels_more c.loop-log.levels.items c.raise.new.levels.items c.args.logs.now c.log.inside.groups c.log-item.result c.loop-log.log-index c.loop-log-test.true
      (c.log.view_is ∙ c.log-item.is) c.in_ok-raise.ensures c.loop-log.invariant.1,
)

pub returns : goal.returns
returns c =
    let levels = c.loop-log.invariant.0 in
    last_misses c.last_level.result c.loop-log.levels.items c.args.logs.now c.args.parity c.loop-log.log-index (omega (arith, levels)) c.loop-log-test.false
    c.loop-log.invariant.1 c.last_level.ensures

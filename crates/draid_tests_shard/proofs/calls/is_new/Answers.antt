use Rattle.std.proofs.Common.{arith}
use Rattle.draid_tests_shard.proofs.Runs.{passed, unused}
use Rattle.draid_tests_shard.proofs.calls.is_new.Goals as goal

pub loop-entry-init : goal.loop-entry-init
loop-entry-init c e there low same = absurd (omega (arith, low))

pub overflow_add-stripe : goal.overflow_add-stripe
overflow_add-stripe c = let low = c.in-Some.ensures.low in omega (arith, low)

pub loop-entry-smaller : goal.loop-entry-smaller
loop-entry-smaller c = let low = c.in-Some.ensures.low in let from = c.in-Some.ensures.from in omega (arith, low, from)

pub returns : goal.returns
returns c = λ new. unused c.args.entries.now c.args.seq c.loop-entry.stripe c.loop-entry.invariant c.in_default.ensures.none

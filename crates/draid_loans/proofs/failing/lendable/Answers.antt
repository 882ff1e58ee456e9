use Rattle.draid_passes.proofs.Walks.{walked_all, walked_here, walked_more}
use Rattle.draid_loans.proofs.failing.lendable.Goals as goal

pub may_lend-requires : goal.may_lend-requires
may_lend-requires c = record {
  short = c.requires.short c.in-Some.key.now c.in-Some.block.now
      (walked_here _ _ _ _ c.in-Some.key.now c.in-Some.block.now c.loop-key.invariant c.in-Some.ensures.steps c.into_iter-key-iterator.ensures.into_iter_gives.6);
}

pub returns-then-may_lend-clause-found : goal.returns-then-may_lend-clause-found
returns-then-may_lend-clause-found c =
    walked_here _ _ _ _ c.in-Some.key.now c.in-Some.block.now c.loop-key.invariant c.in-Some.ensures.steps c.into_iter-key-iterator.ensures.into_iter_gives.6

pub loop-key-preserved : goal.loop-key-preserved
loop-key-preserved c =
    walked_more _ _ _ _ c.in-Some.key.now c.in-Some.block.now c.loop-key.invariant c.in-Some.ensures.steps (c.may_lend.ensures.no c.if-may_lend.false)

pub returns-clause-none : goal.returns-clause-none
returns-clause-none c = λ k h found. walked_all _ _ _ k h c.loop-key.invariant c.in-None.ensures.steps.0 found

use Rattle.std.proofs.Common.{◌∙◌, arith}
use Rattle.std.proofs.lemmas.List.Sorted.{IsPermutation-trans}
use Rattle.draid_perm.proofs.Shuffles.{shuffled-drop}
use Rattle.draid_perm.proofs.exchange.shuffle.Goals as goal

pub loop-word-preserved : goal.loop-word-preserved
loop-word-preserved c = record {
  rest = shuffled-drop _ _ _ _ _ c.loop-word-test.true c.loop-word.invariant.last c.swap.ensures.after ∙ c.loop-word.invariant.rest;
  last = omega arith;
  permutation = IsPermutation-trans _ _ _ c.loop-word.invariant.permutation c.swap.ensures.permutation;
}

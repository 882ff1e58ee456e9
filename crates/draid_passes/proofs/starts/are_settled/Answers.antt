use Rattle.std.proofs.lemmas.Bool.{true≢false}
use Rattle.std.proofs.Common.{◌≡◌, ◌≤◌, true, sym, ◌∙◌, arith}
use Rattle.draid_machine.specs.Names.{is_block}
use Rattle.draid_machine.proofs.Small.{absurd_test}
use Rattle.draid_passes.proofs.Walks.{walked_none, walked_more, walked_all, walked_here}
use Rattle.draid_passes.proofs.starts.are_settled.Goals as goal
use Rattle.draid_passes.proofs.starts.are_settled.Goals.{then-not-is_block-via-then-not-is_block, then-not-is_block-via-else-not-is_block+then-block-group}

pub loop-block-init : goal.loop-block-init
loop-block-init c = walked_none _ _ _ c.into_iter-block-iterator.ensures.into_iter_gives.0

pub loop-block-preserved : goal.loop-block-preserved
loop-block-preserved c =
    walked_more _ _ _ _ c.in-Some.field-0-0.now c.in-Some.block.now c.loop-block.invariant c.in-Some.ensures.steps
    (sym c.is_block.ensures ∙ c.if-not-is_block.false, c.if-block-group.false)

pub returns-clause-yes : goal.returns-clause-yes
returns-clause-yes c = λ e. record {
  only_blocks = λ k h found. (walked_all _ _ _ k h c.loop-block.invariant c.in-None.ensures.steps.0 found).0;
  births = λ k h found. (walked_all _ _ _ k h c.loop-block.invariant c.in-None.ensures.steps.0 found).1;
}

pub returns-then-not-is_block-clause-no : goal.returns-then-not-is_block-clause-no
returns-then-not-is_block-clause-no c = λ e settled.
    let here = walked_here _ _ _ _ c.in-Some.field-0-0.now c.in-Some.block.now c.loop-block.invariant c.in-Some.ensures.steps c.into_iter-block-iterator.ensures.into_iter_gives.6 in
    let block : is_block c.in-Some.block.now.stage ≡ true = settled.only_blocks c.in-Some.field-0-0.now c.in-Some.block.now here in
    let birth : c.in-Some.block.now.birth ≤ c.args.group = settled.births c.in-Some.field-0-0.now c.in-Some.block.now here in
    elim c.then-not-is_block.branch [
      | then-not-is_block-via-then-not-is_block w ↦ absurd_test (is_block c.in-Some.block.now.stage) block (sym c.is_block.ensures ∙ w.if-not-is_block.true)
      | then-not-is_block-via-else-not-is_block+then-block-group w ↦ absurd (omega (arith, birth, w.if-block-group.true))
    ]

pub returns-then-not-is_block-clause-yes : goal.returns-then-not-is_block-clause-yes
returns-then-not-is_block-clause-yes c = λ e. absurd (true≢false (sym e))

pub returns-clause-no : goal.returns-clause-no
returns-clause-no c = λ e. absurd (true≢false e)

use Rattle.draid_record.specs.Written.{block_bytes}
use Rattle.draid_record.proofs.Adding.{all_more, both, nothing, one_more}
use Rattle.draid_record.proofs.writing.put_blocks.Goals as goal

pub loop-block-init : goal.loop-block-init
loop-block-init c = nothing _

pub loop-block-preserved : goal.loop-block-preserved
loop-block-preserved c = one_more block_bytes c.args.blocks.now c.loop-block.block-index _ _ _ _ c.loop-block-test.true c.loop-block.invariant c.put_block.ensures

pub returns : goal.returns
returns c =
    both _ _ _ _ _ c.put.ensures (all_more block_bytes c.args.blocks.now c.loop-block.block-index _ _ c.loop-block-test.false c.loop-block.invariant)

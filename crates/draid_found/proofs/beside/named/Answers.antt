use Rattle.std.proofs.Common.{arith}
use Rattle.draid_found.specs.Together.{noted_in}
use Rattle.draid_found.proofs.NewestBeside.{named_all, named_more, named_none}
use Rattle.std.proofs.lemmas.Option.{slice_get-get_or}
use Rattle.draid_found.proofs.beside.named.Goals as goal

pub loop-block-init : goal.loop-block-init
loop-block-init c = record { noted = named_none c.args.drops.now c.new-keys.result c.new-keys.ensures.empty; bound = omega arith }

pub loop-block-preserved : goal.loop-block-preserved
loop-block-preserved c =
    let below = c.loop-block-test.true in
    record {
      noted = named_more c.args.drops.now c.loop-block.block-index _ (noted_in c.loop-block.keys) (noted_in c.note_named.new.keys)
          (slice_get-get_or c.args.drops.now c.loop-block.block-index _ below) c.loop-block.invariant.noted c.in-Ok.ensures;
      bound = omega (arith, below);
    }

pub returns : goal.returns
returns c = (let end = c.loop-block-test.false in named_all c.args.drops.now c.loop-block.block-index (noted_in c.loop-block.keys) (omega (arith, end)) c.loop-block.invariant.noted)

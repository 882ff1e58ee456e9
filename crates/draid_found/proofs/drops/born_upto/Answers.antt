use Rattle.std.proofs.Common.{arith}
use Rattle.draid_found.specs.Together.{noted_in}
use Rattle.draid_found.proofs.Born.{so_far_all, so_far_more, so_far_none}
use Rattle.draid_found.proofs.Noted.{at_item}
use Rattle.draid_found.proofs.drops.born_upto.Goals as goal

pub loop-shard-init : goal.loop-shard-init
loop-shard-init g c = record { noted = so_far_none c.args.shards.now c.args.upto c.new-keys.result c.new-keys.ensures.empty; bound = omega arith }

pub note_all_born-requires : goal.note_all_born-requires
note_all_born-requires g c = record {
  valid = (c.requires.ready c.loop-shard.shard-index c.shard-item.result (at_item c.args.shards.now c.loop-shard.shard-index c.shard-item.result c.loop-shard-test.true c.shard-item.is)).valid;
}

pub loop-shard-preserved : goal.loop-shard-preserved
loop-shard-preserved g c =
    let below = c.loop-shard-test.true in
    record {
      noted = so_far_more c.args.shards.now c.args.upto c.loop-shard.shard-index c.shard-item.result (noted_in c.loop-shard.keys) (noted_in c.note_all_born.new.keys)
          (at_item c.args.shards.now c.loop-shard.shard-index c.shard-item.result below c.shard-item.is) c.loop-shard.invariant.noted c.in-Ok.ensures;
      bound = omega (arith, below);
    }

pub returns : goal.returns
returns g c = (let end = c.loop-shard-test.false in so_far_all c.args.shards.now c.args.upto c.loop-shard.shard-index (noted_in c.loop-shard.keys) (omega (arith, end)) c.loop-shard.invariant.noted)

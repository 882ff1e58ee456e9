use Rattle.std.proofs.Common.{arith, rules}
use Rattle.std.specs.Prelude.{nat_eq}
use Rattle.std.specs.HashMap.{get}
use Rattle.draid_found.specs.Together.{noted_in}
use Rattle.draid_found.proofs.NewestBeside.{beside_begins, beside_ends, beside_next}
use Rattle.draid_found.proofs.Noted.{at_item}
use Rattle.draid_found.proofs.beside.newest_beside.Goals as goal

pub loop-shard-init : goal.loop-shard-init
loop-shard-init g c = record { finding = beside_begins g.R.Rack c.args.shards.now (noted_in c.in_ok-keys.keys) (get nat_eq c.new-newest.result) (λ object. search rules); bound = omega arith }

pub note_all_beside-requires : goal.note_all_beside-requires
note_all_beside-requires g c =
    let ready = c.requires.ready c.loop-shard.shard-index c.shard-item.result (at_item c.args.shards.now c.loop-shard.shard-index c.shard-item.result c.loop-shard-test.true c.shard-item.is) in
    record { valid = ready.valid; live = ready.live }

pub loop-shard-preserved : goal.loop-shard-preserved
loop-shard-preserved g c =
    let below = c.loop-shard-test.true in
    record {
      finding = beside_next g.R.Rack c.args.shards.now (noted_in c.in_ok-keys.keys) c.loop-shard.shard-index c.shard-item.result (get nat_eq c.loop-shard.newest) (get nat_eq c.note_all_beside.new.newest)
          (at_item c.args.shards.now c.loop-shard.shard-index c.shard-item.result below c.shard-item.is) c.requires.ready c.loop-shard.invariant.finding c.in-Ok.ensures;
      bound = omega (arith, below);
    }

pub returns : goal.returns
returns g c = (let end = c.loop-shard-test.false in
    beside_ends g.R.Rack c.args.shards.now (noted_in c.in_ok-keys.keys) c.args.drops.now c.loop-shard.shard-index (get nat_eq c.loop-shard.newest) c.in_ok-keys.ensures (omega (arith, end)) c.loop-shard.invariant.finding)

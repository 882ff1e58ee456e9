use Rattle.std.proofs.Common.{arith, rules}
use Rattle.std.specs.Prelude.{nat_eq}
use Rattle.std.specs.HashMap.{get}
use Rattle.draid_found.proofs.Noted.{at_item}
use Rattle.draid_rewinds.proofs.NewestBorn.{finding_all, finding_next, finding_none}
use Rattle.draid_rewinds.proofs.tables.newest_born.Goals as goal

pub loop-shard-init : goal.loop-shard-init
loop-shard-init g c = record { finding = finding_none c.args.shards.now c.args.group (get nat_eq c.new-newest.result) (λ object. search rules); bound = omega arith }

pub keep_born_in-requires : goal.keep_born_in-requires
keep_born_in-requires g c = record { valid = c.requires.valid c.loop-shard.shard-index c.shard-item.result (at_item c.args.shards.now c.loop-shard.shard-index c.shard-item.result c.loop-shard-test.true c.shard-item.is) }

pub loop-shard-preserved : goal.loop-shard-preserved
loop-shard-preserved g c =
    let below = c.loop-shard-test.true in
    record {
      finding = finding_next c.args.shards.now c.args.group c.loop-shard.shard-index c.shard-item.result (get nat_eq c.loop-shard.newest) (get nat_eq c.keep_born_in.new.newest)
          (at_item c.args.shards.now c.loop-shard.shard-index c.shard-item.result below c.shard-item.is) c.loop-shard.invariant.finding c.in-Ok.ensures;
      bound = omega (arith, below);
    }

pub returns : goal.returns
returns g c = (let end = c.loop-shard-test.false in finding_all c.args.shards.now c.args.group c.loop-shard.shard-index (get nat_eq c.loop-shard.newest) (omega (arith, end)) c.loop-shard.invariant.finding)

use Rattle.std.proofs.Common.{arith, rules}
use Rattle.std.specs.Prelude.{nat_eq}
use Rattle.std.specs.HashMap.{get}
use Rattle.draid_found.specs.Together.{noted_in}
use Rattle.draid_found.proofs.Listing.{listing_begins, listing_ends, listing_next}
use Rattle.draid_found.proofs.Noted.{at_item}
use Rattle.draid_found.proofs.older.older_blocks.Goals as goal

pub loop-shard-init : goal.loop-shard-init
loop-shard-init g c = record {
  listing = listing_begins c.args.shards.now (get nat_eq c.args.newest.now) c.args.upto c.args.drops.now c.new-list.result.items (noted_in c.in_ok-keys.keys) (search rules) c.in_ok-keys.ensures;
  bound = omega arith;
}

pub list_of-requires : goal.list_of-requires
list_of-requires g c = record {
  valid = (c.requires.ready c.loop-shard.shard-index c.shard-item.result (at_item c.args.shards.now c.loop-shard.shard-index c.shard-item.result c.loop-shard-test.true c.shard-item.is)).valid;
}

pub loop-shard-preserved : goal.loop-shard-preserved
loop-shard-preserved g c =
    let below = c.loop-shard-test.true in
    record {
      listing = listing_next c.args.shards.now (get nat_eq c.args.newest.now) c.args.upto c.args.drops.now c.loop-shard.shard-index c.shard-item.result c.loop-shard.list.items c.list_of.new.list.items
          (noted_in c.loop-shard.keys) (noted_in c.list_of.new.keys)
          (at_item c.args.shards.now c.loop-shard.shard-index c.shard-item.result below c.shard-item.is) c.loop-shard.invariant.listing c.in-Ok.ensures;
      bound = omega (arith, below);
    }

pub returns : goal.returns
returns g c = (let end = c.loop-shard-test.false in
    listing_ends c.args.shards.now (get nat_eq c.args.newest.now) c.args.upto c.args.drops.now c.loop-shard.shard-index c.loop-shard.list.items (noted_in c.loop-shard.keys) (omega (arith, end)) c.loop-shard.invariant.listing)

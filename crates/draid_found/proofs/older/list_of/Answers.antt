use Rattle.std.proofs.Common.{arith}
use Rattle.std.specs.Prelude.{nat_eq}
use Rattle.std.specs.HashMap.{get}
use Rattle.draid_found.specs.Together.{noted_in}
use Rattle.draid_found.proofs.Listing.{lists_all, lists_more, lists_none}
use Rattle.draid_found.proofs.Noted.{next_inside, next_low}
use Rattle.draid_found.proofs.older.list_of.Goals as goal

pub overflow_add-from : goal.overflow_add-from
overflow_add-from g c = (let low = next_low g.R.Rack c.args.shard.now c.loop-pointer.from c.in-Some.pointer c.in-Some.ensures.some in omega (arith, low))

pub loop-pointer-smaller : goal.loop-pointer-smaller
loop-pointer-smaller g c =
    let next = c.in-Some.ensures.some in
    let inside = next_inside g.R.Rack c.args.shard.now c.loop-pointer.from c.in-Some.pointer c.requires.valid next in
    let behind = next.behind in
    omega (arith, inside, behind)

pub loop-pointer-init : goal.loop-pointer-init
loop-pointer-init g c = record { listed = lists_none g.R.Rack c.args.shard.now (get nat_eq c.args.newest.now) c.args.upto c.args.list.now.items (noted_in c.args.keys.now); bound = omega arith }

pub loop-pointer-preserved : goal.loop-pointer-preserved
loop-pointer-preserved g c =
    let next = c.in-Some.ensures.some in
    let inside = next_inside g.R.Rack c.args.shard.now c.loop-pointer.from c.in-Some.pointer c.requires.valid next in
    record {
      listed = lists_more g.R.Rack c.args.shard.now (get nat_eq c.args.newest.now) c.args.upto c.loop-pointer.from c.in-Some.pointer c.args.list.now.items c.loop-pointer.list.items c.list_if_older.new.list.items
          (noted_in c.args.keys.now) (noted_in c.loop-pointer.keys) (noted_in c.list_if_older.new.keys) next c.loop-pointer.invariant.listed c.in-Ok.ensures;
      bound = omega (arith, inside);
    }

pub returns : goal.returns
returns g c = lists_all g.R.Rack c.args.shard.now (get nat_eq c.args.newest.now) c.args.upto c.loop-pointer.from c.args.list.now.items c.loop-pointer.list.items (noted_in c.args.keys.now) (noted_in c.loop-pointer.keys)
    c.in_default.ensures.none c.loop-pointer.invariant.listed

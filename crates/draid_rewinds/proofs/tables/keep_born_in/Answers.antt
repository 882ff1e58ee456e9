use Rattle.std.proofs.Common.{arith}
use Rattle.std.specs.Prelude.{nat_eq}
use Rattle.std.specs.HashMap.{get}
use Rattle.draid_found.proofs.Noted.{next_low}
use Rattle.draid_rewinds.proofs.NewestBorn.{noting_all, noting_more, noting_none}
use Rattle.draid_rewinds.proofs.tables.keep_born_in.Goals as goal

pub overflow_add-from : goal.overflow_add-from
overflow_add-from g c = (let low = next_low g.R.Rack c.args.shard.now c.loop-pointer.from c.in-Some.pointer c.in-Some.ensures.some in omega (arith, low))

pub loop-pointer-smaller : goal.loop-pointer-smaller
loop-pointer-smaller g c =
    let next = c.in-Some.ensures.some in
    let low = next_low g.R.Rack c.args.shard.now c.loop-pointer.from c.in-Some.pointer next in
    let behind = next.behind in
    omega (arith, low, behind)

pub loop-pointer-init : goal.loop-pointer-init
loop-pointer-init g c = record { noted = noting_none g.R.Rack c.args.shard.now c.args.group (get nat_eq c.args.newest.now); bound = omega arith }

pub loop-pointer-preserved : goal.loop-pointer-preserved
loop-pointer-preserved g c =
    let next = c.in-Some.ensures.some in
    let low = next_low g.R.Rack c.args.shard.now c.loop-pointer.from c.in-Some.pointer next in
    record {
      noted = noting_more g.R.Rack c.args.shard.now c.args.group c.loop-pointer.from c.in-Some.pointer (get nat_eq c.args.newest.now) (get nat_eq c.loop-pointer.newest) (get nat_eq c.keep_born.new.newest) next
          c.loop-pointer.invariant.noted c.in-Ok.ensures;
      bound = omega (arith, low);
    }

pub returns : goal.returns
returns g c = noting_all g.R.Rack c.args.shard.now c.args.group c.loop-pointer.from (get nat_eq c.args.newest.now) (get nat_eq c.loop-pointer.newest) c.in_default.ensures.none c.loop-pointer.invariant.noted

use Rattle.std.proofs.Common.{arith}
use Rattle.std.specs.Prelude.{nat_eq}
use Rattle.std.specs.HashMap.{get}
use Rattle.draid_found.specs.Together.{noted_in}
use Rattle.draid_found.proofs.NewestBeside.{beside_all, beside_more, beside_none}
use Rattle.draid_found.proofs.Noted.{next_inside, next_low}
use Rattle.draid_found.proofs.beside.note_all_beside.Goals as goal

pub overflow_add-from : goal.overflow_add-from
overflow_add-from g c = (let low = next_low g.R.Rack c.args.shard.now c.loop-pointer.from c.in-Some.pointer c.in-Some.ensures.some in omega (arith, low))

pub loop-pointer-smaller : goal.loop-pointer-smaller
loop-pointer-smaller g c =
    let next = c.in-Some.ensures.some in
    let inside = next_inside g.R.Rack c.args.shard.now c.loop-pointer.from c.in-Some.pointer c.requires.valid next in
    let behind = next.behind in
    omega (arith, inside, behind)

pub loop-pointer-init : goal.loop-pointer-init
loop-pointer-init g c = record { noted = beside_none g.R.Rack c.args.shard.now (noted_in c.args.keys.now) (get nat_eq c.args.newest.now); bound = omega arith }

pub loop-pointer-preserved : goal.loop-pointer-preserved
loop-pointer-preserved g c =
    let next = c.in-Some.ensures.some in
    let inside = next_inside g.R.Rack c.args.shard.now c.loop-pointer.from c.in-Some.pointer c.requires.valid next in
    record {
      noted = beside_more g.R.Rack c.args.shard.now (noted_in c.args.keys.now) c.loop-pointer.from c.in-Some.pointer (get nat_eq c.args.newest.now) (get nat_eq c.loop-pointer.newest) (get nat_eq c.note_beside.new.newest)
          c.requires.valid c.requires.live next c.loop-pointer.invariant.noted c.in-Ok.ensures;
      bound = omega (arith, inside);
    }

pub returns : goal.returns
returns g c = beside_all g.R.Rack c.args.shard.now (noted_in c.args.keys.now) c.loop-pointer.from (get nat_eq c.args.newest.now) (get nat_eq c.loop-pointer.newest) c.in_default.ensures.none c.loop-pointer.invariant.noted

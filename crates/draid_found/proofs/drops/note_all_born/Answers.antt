use Rattle.std.proofs.Common.{arith}
use Rattle.draid_found.specs.Together.{noted_in}
use Rattle.draid_found.proofs.Born.{born_all, born_more, born_none}
use Rattle.draid_found.proofs.Noted.{next_inside, next_low}
use Rattle.draid_found.proofs.drops.note_all_born.Goals as goal

pub overflow_add-from : goal.overflow_add-from
overflow_add-from g c = (let low = next_low g.R.Rack c.args.shard.now c.loop-pointer.from c.in-Some.pointer c.in-Some.ensures.some in omega (arith, low))

pub loop-pointer-smaller : goal.loop-pointer-smaller
loop-pointer-smaller g c =
    let next = c.in-Some.ensures.some in
    let inside = next_inside g.R.Rack c.args.shard.now c.loop-pointer.from c.in-Some.pointer c.requires.valid next in
    let behind = next.behind in
    omega (arith, inside, behind)

pub loop-pointer-init : goal.loop-pointer-init
loop-pointer-init g c = record { noted = born_none g.R.Rack c.args.shard.now c.args.upto (noted_in c.args.keys.now); bound = omega arith }

pub loop-pointer-preserved : goal.loop-pointer-preserved
loop-pointer-preserved g c =
    let next = c.in-Some.ensures.some in
    let inside = next_inside g.R.Rack c.args.shard.now c.loop-pointer.from c.in-Some.pointer c.requires.valid next in
    record {
      noted = born_more g.R.Rack c.args.shard.now c.args.upto c.loop-pointer.from c.in-Some.pointer (noted_in c.args.keys.now) (noted_in c.loop-pointer.keys) (noted_in c.note_born.new.keys) next
          c.loop-pointer.invariant.noted c.in-Ok.ensures;
      bound = omega (arith, inside);
    }

pub returns : goal.returns
returns g c = born_all g.R.Rack c.args.shard.now c.args.upto c.loop-pointer.from (noted_in c.args.keys.now) (noted_in c.loop-pointer.keys) c.in_default.ensures.none c.loop-pointer.invariant.noted

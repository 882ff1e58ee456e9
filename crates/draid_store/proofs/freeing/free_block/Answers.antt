use Rattle.std.proofs.Common.{arith}
use Rattle.draid_pool.proofs.Freed.{frees}
use Rattle.draid_store.proofs.freeing.free_block.Goals as goal

pub returns : goal.returns
returns g c = record {
  valid = c.in-Ok.ensures.valid;
  part = c.in-Ok.ensures.event.1.part;
  group = c.in-Ok.ensures.event.0;
  sets = c.in-Ok.ensures.sets;
  reserve = c.in-Ok.ensures.reserve;
  pass = c.in-Ok.ensures.pass;
  areas = c.in-Ok.ensures.kit.areas;
  frees = frees g.R.Rack g.A.Area c.args.shard.now c.free.new.shard c.args.pointer.now c.args.floor c.in-Ok.group c.in-Ok.ensures.valid c.in-Ok.ensures.kit c.in-Ok.ensures.reserve
      c.in-Ok.ensures.event.0 c.in-Ok.ensures.event.1
      (let low = c.requires.valid.low in let floor = c.requires.floor in let last = c.requires.last in let is = c.in-Ok.ensures.event.0 in omega (arith, low, floor, last, is)) c.requires.live;
}

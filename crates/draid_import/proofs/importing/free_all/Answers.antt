use Rattle.std.proofs.Common.{arith, ◌∙◌, sym}
use Rattle.std.specs.Prelude.{nat_eq}
use Rattle.std.specs.HashMap.{get}
use Rattle.draid_import.proofs.ImportFreed.{are_left, keeps_more, only_more}
use Rattle.draid_uber.specs.Uber.{point_of}
use Rattle.draid_found.proofs.Noted.{at_item}
use Rattle.draid_import.proofs.Found.{freeing_all, freeing_more}
use Rattle.draid_import.proofs.importing.free_all.Goals as goal

pub free_older-requires : goal.free_older-requires
free_older-requires g c =
    let f = c.loop-number.invariant.freeing in
    let many = f.many in
    let below = c.loop-number-test.true in
    let end = c.len-number-end.ensures in
    let len = c.args.shards.now.ok.0 in
    let there = at_item c.loop-number.shards.items c.loop-number.number c.index_mut.result.now (omega (arith, many, below, end, len)) c.index_mut.ensures.value in
    record {
      valid = (c.requires.ready c.loop-number.number c.index_mut.result.now (sym (f.left c.loop-number.number (omega arith)) ∙ there)).valid;
      live = (c.requires.ready c.loop-number.number c.index_mut.result.now (sym (f.left c.loop-number.number (omega arith)) ∙ there)).live;
      floor = c.requires.floor c.loop-number.number c.index_mut.result.now (sym (f.left c.loop-number.number (omega arith)) ∙ there);
      last = c.requires.last;
    }

pub loop-number-preserved : goal.loop-number-preserved
loop-number-preserved g c =
    let f = c.loop-number.invariant.freeing in
    let many = f.many in
    let below = c.loop-number-test.true in
    let end = c.len-number-end.ensures in
    let len = c.args.shards.now.ok.0 in
    let there = at_item c.loop-number.shards.items c.loop-number.number c.index_mut.result.now (omega (arith, many, below, end, len)) c.index_mut.ensures.value in
    record {
      freeing = freeing_more g.R.Rack (get nat_eq c.args.newest.now) (point_of c.args.uber.now).group c.loop-number.number c.args.shards.now.items c.loop-number.shards.items c.index_mut.result.now c.free_older.new.shard there f c.free_older.ensures.frees;
      keeps = keeps_more g.R.Rack g.A.Area (get nat_eq c.args.newest.now) (point_of c.args.uber.now).group c.args.floor c.loop-number.number c.args.shards.now.items c.loop-number.shards.items c.index_mut.result.now c.free_older.new.shard there
          c.loop-number.invariant.keeps c.free_older.ensures.keeps;
      only = only_more g.R.Rack g.A.Area (get nat_eq c.args.newest.now) (point_of c.args.uber.now).group c.args.floor c.loop-number.number c.loop-number.shards.items c.index_mut.result.now c.free_older.new.shard there
          c.loop-number.invariant.only c.free_older.ensures.only;
      bound = omega (arith, below, end, len);
    }

pub returns : goal.returns
returns g c =
    let past = c.loop-number-test.false in
    let end = c.len-number-end.ensures in
    let len = c.args.shards.now.ok.0 in
    let i = c.loop-number.invariant in
    let many = i.freeing.many in
    record {
      freed = freeing_all g.R.Rack (get nat_eq c.args.newest.now) (point_of c.args.uber.now).group c.loop-number.number c.args.shards.now.items c.loop-number.shards.items (omega (arith, past, end, len)) i.freeing;
      only = are_left g.R.Rack g.A.Area (get nat_eq c.args.newest.now) (point_of c.args.uber.now).group c.args.floor c.loop-number.number c.loop-number.shards.items (omega (arith, past, end, len, many)) i.only;
      keeps = i.keeps;
    }

use Rattle.std.proofs.Common.{arith, ◌∙◌, sym}
use Rattle.std.specs.Prelude.{nat_eq}
use Rattle.std.specs.HashMap.{get}
use Rattle.draid_found.proofs.Noted.{at_item}
use Rattle.draid_rewinds.proofs.Others.{all_ends, all_none, all_step}
use Rattle.draid_rewinds.proofs.sweeping.free_others.Goals as goal

pub loop-number-init : goal.loop-number-init
loop-number-init g c = record { all = all_none g.R.Rack g.A.Area (get nat_eq c.args.objects.now) c.args.group c.args.shards.now.items; bound = omega arith }

pub free_others_in-freed-requires : goal.free_others_in-freed-requires
free_others_in-freed-requires g c =
    let all = c.loop-number.invariant.all in
    let long = all.long in
    let below = c.loop-number-test.true in
    let end = c.len-number-end.ensures in
    let len = c.args.shards.now.ok.0 in
    let there = at_item c.loop-number.shards.items c.loop-number.number c.index_mut.result.now (omega (arith, long, below, end, len)) c.index_mut.ensures.value in
    record { ready = c.requires.ready c.loop-number.number c.index_mut.result.now (sym (all.left c.loop-number.number (omega arith)) ∙ there) }

pub overflow_add-freed : goal.overflow_add-freed
overflow_add-freed g c =
    let all = c.loop-number.invariant.all in
    let few = all.few in
    let more = c.free_others_in-freed.ensures.frees.few in
    let below = c.loop-number-test.true in
    let end = c.len-number-end.ensures in
    let len = c.args.shards.now.ok.0 in
    let most = c.requires.few in
    omega (arith, below, end, len, most, few, more)

pub loop-number-preserved : goal.loop-number-preserved
loop-number-preserved g c =
    let all = c.loop-number.invariant.all in
    let long = all.long in
    let below = c.loop-number-test.true in
    let end = c.len-number-end.ensures in
    let len = c.args.shards.now.ok.0 in
    let there = at_item c.loop-number.shards.items c.loop-number.number c.index_mut.result.now (omega (arith, long, below, end, len)) c.index_mut.ensures.value in
    record {
      all = all_step g.R.Rack g.A.Area (get nat_eq c.args.objects.now) c.args.group c.loop-number.number c.loop-number.freed c.free_others_in-freed.result c.args.shards.now.items c.loop-number.shards.items c.index_mut.result.now
          c.free_others_in-freed.new.shard there all c.free_others_in-freed.ensures.frees;
      bound = omega (arith, below, end, len);
    }

pub returns : goal.returns
returns g c =
    let past = c.loop-number-test.false in
    let end = c.len-number-end.ensures in
    let len = c.args.shards.now.ok.0 in
    record {
      frees = all_ends g.R.Rack g.A.Area (get nat_eq c.args.objects.now) c.args.group c.loop-number.number c.loop-number.freed c.args.shards.now.items c.loop-number.shards.items (omega (arith, past, end, len)) c.loop-number.invariant.all;
    }

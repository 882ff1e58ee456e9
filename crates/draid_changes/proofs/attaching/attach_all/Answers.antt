use Rattle.std.proofs.Common.{arith}
use Rattle.draid_changes.specs.Attaching.{Attaches}
use Rattle.draid_changes.proofs.Walk.{changed_none, walk_ends, walk_more, was_borrowed}
use Rattle.draid_changes.proofs.attaching.attach_all.Goals as goal

pub loop-metaslab-init : goal.loop-metaslab-init
loop-metaslab-init g c = changed_none (Attaches g.R.Rack c.args.slot c.args.kind c.args.number) c.args.shards.now.items

pub attach_in-requires : goal.attach_in-requires
attach_in-requires g c =
    let l = c.loop-metaslab in
    let below = c.loop-metaslab-test.true in
    let len = c.len-metaslab-end.ensures in
    let vec = c.args.shards.now.ok.0 in
    let shard = c.index_mut.result.now in
    c.requires.ready l.metaslab shard (was_borrowed (Attaches g.R.Rack c.args.slot c.args.kind c.args.number) l.metaslab c.args.shards.now.items l.shards.items shard l.invariant (omega (arith, below, len, vec)) c.index_mut.ensures.value)

pub loop-metaslab-preserved : goal.loop-metaslab-preserved
loop-metaslab-preserved g c =
    let l = c.loop-metaslab in
    let below = c.loop-metaslab-test.true in
    let len = c.len-metaslab-end.ensures in
    let vec = c.args.shards.now.ok.0 in
    walk_more (Attaches g.R.Rack c.args.slot c.args.kind c.args.number) l.metaslab c.args.shards.now.items l.shards.items c.index_mut.result.now c.attach_in.new.shard l.invariant (omega (arith, below, len, vec)) c.index_mut.ensures.value c.attach_in.ensures

pub returns : goal.returns
returns g c =
    let l = c.loop-metaslab in
    let past = c.loop-metaslab-test.false in
    let most = l.auto.metaslab-end in
    let len = c.len-metaslab-end.ensures in
    let vec = c.args.shards.now.ok.0 in
    record { attaches = walk_ends (Attaches g.R.Rack c.args.slot c.args.kind c.args.number) l.metaslab c.args.shards.now.items l.shards.items l.invariant (omega (arith, past, most, len, vec)) }

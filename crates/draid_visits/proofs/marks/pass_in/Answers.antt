use Rattle.std.proofs.Common.{arith}
use Rattle.draid_session.specs.Passes as passes
use Rattle.draid_pool.proofs.SyncSteps.{borrowed_at}
use Rattle.draid_visits.proofs.Found.{only_all, only_more, pass_there}
use Rattle.draid_visits.proofs.marks.pass_in.Goals as goal

pub returns-in-Some-clause-found : goal.returns-in-Some-clause-found
returns-in-Some-clause-found g c =
    let l = c.loop-metaslab in
    let pool = c.args.pool.now in
    let shard = c.index.result.now in
    let below = c.loop-metaslab-test.true in
    let len = c.len-metaslab-end.ensures in
    let vec = pool.metaslabs.shards.ok.0 in
    let there = borrowed_at pool.metaslabs.shards.items l.metaslab shard (omega (arith, below, len, vec)) c.index.ensures in
    pass_there c.args.kind pool l.metaslab c.in-Some.number shard there c.in-Some.ensures.found l.invariant.below

pub loop-metaslab-preserved : goal.loop-metaslab-preserved
loop-metaslab-preserved g c =
    let l = c.loop-metaslab in
    let pool = c.args.pool.now in
    let shard = c.index.result.now in
    let below = c.loop-metaslab-test.true in
    let len = c.len-metaslab-end.ensures in
    let vec = pool.metaslabs.shards.ok.0 in
    let there = borrowed_at pool.metaslabs.shards.items l.metaslab shard (omega (arith, below, len, vec)) c.index.ensures in
    record { below = only_more (passes.other_kind c.args.kind) pool.metaslabs.shards.items l.metaslab shard there c.in_default.ensures.none l.invariant.below }

pub returns-clause-none : goal.returns-clause-none
returns-clause-none g c =
    let end = c.loop-metaslab-test.false in
    let len = c.len-metaslab-end.ensures in
    let vec = c.args.pool.now.metaslabs.shards.ok.0 in
    only_all (passes.other_kind c.args.kind) c.args.pool.now c.loop-metaslab.metaslab (omega (arith, end, len, vec)) c.loop-metaslab.invariant.below

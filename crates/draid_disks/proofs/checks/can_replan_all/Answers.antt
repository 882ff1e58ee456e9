use Rattle.std.proofs.Common.{arith, length, refl, sym, ◌∙◌}
use Rattle.std.proofs.lemmas.Bool.{true≢false}
use Rattle.std.proofs.lemmas.Option.{slice_get_read}
use Rattle.draid_disks.specs.Replanning.{MayReplan}
use Rattle.draid_disks.proofs.Checked.{below_all, below_more}
use Rattle.draid_disks.proofs.checks.can_replan_all.Goals as goal

pub returns-then-not-can_replan : goal.returns-then-not-can_replan
returns-then-not-can_replan g c =
    let there = slice_get_read c.args.shards.now (length c.args.shards.now) c.loop-shard.shard-index c.shard-item.result refl c.loop-shard-test.true c.shard-item.is in (
      λ is. absurd (true≢false (sym is)),
      λ each. absurd (true≢false (sym (c.can_replan.ensures.1 (each c.loop-shard.shard-index c.shard-item.result there)) ∙ c.if-not-can_replan.true)),
    )

pub loop-shard-preserved : goal.loop-shard-preserved
loop-shard-preserved g c =
    let there = slice_get_read c.args.shards.now (length c.args.shards.now) c.loop-shard.shard-index c.shard-item.result refl c.loop-shard-test.true c.shard-item.is in
    below_more c.args.shards.now (λ shard. MayReplan shard.pass shard.last_pass shard.open_group) c.loop-shard.shard-index c.shard-item.result there
    (c.can_replan.ensures.0 c.if-not-can_replan.false) c.loop-shard.invariant

pub returns : goal.returns
returns g c = (
  λ is. below_all c.args.shards.now (λ shard. MayReplan shard.pass shard.last_pass shard.open_group) c.loop-shard.shard-index (let end = c.loop-shard-test.false in omega (arith, end)) c.loop-shard.invariant,
  λ each. refl,
)

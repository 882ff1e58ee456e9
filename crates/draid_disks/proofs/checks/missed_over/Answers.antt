use Rattle.std.proofs.Common.{◌≡◌, ◌≤◌, ◌^◌, ◌∙◌, false, ap, arith, length, refl, subst, sym}
use Rattle.std.proofs.lemmas.Option.{slice_get_read}
use Rattle.draid_names.specs.declared.numbers.TheConstants.{NUMBERS}
use Rattle.draid_ranges.specs.Numbers.{Numbers, has}
use Rattle.draid_slots.specs.Table.{count_of}
use Rattle.draid_disks.proofs.Checked.{IsWhole, below_all, count_few, sums_all, sums_more, sums_none}
use Rattle.draid_disks.proofs.checks.missed_over.Goals as goal

pub loop-shard-init : goal.loop-shard-init
loop-shard-init g c = sums_none c.args.shards.now c.args.at

pub log-requires : goal.log-requires
log-requires g c =
    c.requires.there c.loop-shard.shard-index c.shard-item.result
    (slice_get_read c.args.shards.now (length c.args.shards.now) c.loop-shard.shard-index c.shard-item.result refl c.loop-shard-test.true c.shard-item.is)

pub overflow_add-missed : goal.overflow_add-missed
overflow_add-missed g c =
    let low = c.loop-shard.invariant.low in
    let few = c.requires.few in
    let below = c.loop-shard-test.true in
    let counted = c.count-missed.ensures.count in
    let most = count_few (has c.log.result.now) (2 ^ 48) in
    omega (arith, low, few, below, counted, most)

pub loop-shard-preserved : goal.loop-shard-preserved
loop-shard-preserved g c =
    let there = slice_get_read c.args.shards.now (length c.args.shards.now) c.loop-shard.shard-index c.shard-item.result refl c.loop-shard-test.true c.shard-item.is in
    sums_more c.args.shards.now c.args.at c.loop-shard.shard-index c.loop-shard.missed c.count-missed.result c.shard-item.result there
    (c.count-missed.ensures.count ∙ ap count_of c.log.ensures)
    (subst (λ n. n ≤ NUMBERS) (sym c.count-missed.ensures.count) (count_few (has c.log.result.now) NUMBERS))
    (λ group past. subst (λ (log : Numbers). has log group ≡ false) c.log.ensures (c.count-missed.ensures.low group past)) c.loop-shard.invariant

pub returns-clause-sum : goal.returns-clause-sum
returns-clause-sum g c = sums_all c.args.shards.now c.args.at c.loop-shard.shard-index c.loop-shard.missed (let end = c.loop-shard-test.false in omega (arith, end)) c.loop-shard.invariant

pub returns-clause-none : goal.returns-clause-none
returns-clause-none g c = λ zero_.
    below_all c.args.shards.now (IsWhole c.args.shards.now c.args.at) c.loop-shard.shard-index (let end = c.loop-shard-test.false in omega (arith, end)) (c.loop-shard.invariant.none zero_)

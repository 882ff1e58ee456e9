use Rattle.std.proofs.Common.{arith, length, refl, sym, true, false, ◌≡◌, ◌∙◌}
use Rattle.std.proofs.lemmas.Bool.{true≢false}
use Rattle.std.proofs.lemmas.Option.{slice_get_read}
use Rattle.draid_changes.specs.Balancing.{HasOthers}
use Rattle.draid_changes.proofs.HasThem.{below_all, below_more}
use Rattle.draid_changes.proofs.balancing.all_have_others.Goals as goal

pub has_others-requires : goal.has_others-requires
has_others-requires g c =
    c.requires c.loop-shard.shard-index c.shard-item.result (slice_get_read c.args.shards.now (length c.args.shards.now) c.loop-shard.shard-index c.shard-item.result refl c.loop-shard-test.true c.shard-item.is)

pub returns-then-not-has_others : goal.returns-then-not-has_others
returns-then-not-has_others g c =
    let there = slice_get_read c.args.shards.now (length c.args.shards.now) c.loop-shard.shard-index c.shard-item.result refl c.loop-shard-test.true c.shard-item.is in
    record {
      all = λ is. absurd (true≢false (sym is));
      none = λ is. (c.loop-shard.shard-index, c.shard-item.result, there, λ has. absurd (true≢false (sym (c.has_others.ensures.1 has) ∙ c.if-not-has_others.true)));
    }

pub loop-shard-preserved : goal.loop-shard-preserved
loop-shard-preserved g c =
    let there = slice_get_read c.args.shards.now (length c.args.shards.now) c.loop-shard.shard-index c.shard-item.result refl c.loop-shard-test.true c.shard-item.is in
    below_more (λ shard. HasOthers shard.slots c.args.slot) c.args.shards.now c.loop-shard.shard-index c.shard-item.result there (c.has_others.ensures.0 c.if-not-has_others.false) c.loop-shard.invariant

pub returns : goal.returns
returns g c = record {
  all = λ is. below_all (λ shard. HasOthers shard.slots c.args.slot) c.args.shards.now c.loop-shard.shard-index (let end = c.loop-shard-test.false in omega (arith, end)) c.loop-shard.invariant;
  none = λ is. absurd (true≢false (let both : true ≡ false = is in both));
}

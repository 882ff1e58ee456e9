use Rattle.std.proofs.Common.{◌≡◌, None, ap, arith, length, refl, sym, ◌∙◌}
use Rattle.std.specs.Prelude.{option_map}
use Rattle.std.proofs.lemmas.Option.{slice_get_read}
use Rattle.draid_disks.proofs.Checked.{below_all, below_more}
use Rattle.draid_disks.proofs.checks.lowest_pass.Goals as goal

pub returns-in-Some-clause-some : goal.returns-in-Some-clause-some
returns-in-Some-clause-some g c = record {
  place = c.loop-shard.shard-index;
  shard = c.shard-item.result;
  pass = c.in-Some.pass.now;
  there = slice_get_read c.args.shards.now (length c.args.shards.now) c.loop-shard.shard-index c.shard-item.result refl c.loop-shard-test.true c.shard-item.is;
  has = sym c.pass.ensures ∙ ap (option_map (λ pass. pass.now)) c.in-Some.is;
  lower = c.loop-shard.invariant;
  metaslab_is = refl;
  number_is = refl;
}

pub loop-shard-preserved : goal.loop-shard-preserved
loop-shard-preserved g c =
    let there = slice_get_read c.args.shards.now (length c.args.shards.now) c.loop-shard.shard-index c.shard-item.result refl c.loop-shard-test.true c.shard-item.is in
    below_more c.args.shards.now (λ shard. shard.pass ≡ None) c.loop-shard.shard-index c.shard-item.result there (sym c.pass.ensures ∙ ap (option_map (λ pass. pass.now)) c.in-None.is) c.loop-shard.invariant

pub returns-clause-none : goal.returns-clause-none
returns-clause-none g c =
    below_all c.args.shards.now (λ shard. shard.pass ≡ None) c.loop-shard.shard-index (let end = c.loop-shard-test.false in omega (arith, end)) c.loop-shard.invariant

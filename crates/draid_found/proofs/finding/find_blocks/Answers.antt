use Rattle.std.proofs.Common.{arith, rules, Some, subst}
use Rattle.std.specs.Prelude.{nat_eq}
use Rattle.std.specs.HashMap.{get}
use Rattle.draid_found.specs.Together.{AreTogether, noted_in}
use Rattle.draid_machine.proofs.Small.{absurd_test}
use Rattle.draid_found.proofs.Together.{block_twice, earlier_more, earlier_none, other_arms, passed, no_fault, together_more, together_none}
use Rattle.draid_found.proofs.Noted.{at_item, finding_all, finding_more, finding_none}
use Rattle.draid_found.proofs.finding.find_blocks.Goals as goal

pub loop-shard-init : goal.loop-shard-init
loop-shard-init g c = record { finding = finding_none g.R.Rack c.args.shards.now (get nat_eq c.new.result) (λ object. search rules); keys = earlier_none c.args.shards.now c.new-2.result c.new-2.ensures.empty; together = together_none c.args.shards.now; bound = omega arith }

pub note_all-requires : goal.note_all-requires
note_all-requires g c =
    record {
      valid = (c.requires.ready c.loop-shard.shard-index c.shard-item.result (at_item c.args.shards.now c.loop-shard.shard-index c.shard-item.result c.loop-shard-test.true c.shard-item.is)).valid;
      live = (c.requires.ready c.loop-shard.shard-index c.shard-item.result (at_item c.args.shards.now c.loop-shard.shard-index c.shard-item.result c.loop-shard-test.true c.shard-item.is)).live;
    }

pub loop-shard-preserved : goal.loop-shard-preserved
loop-shard-preserved g c =
    let there = at_item c.args.shards.now c.loop-shard.shard-index c.shard-item.result c.loop-shard-test.true c.shard-item.is in
    let below = c.loop-shard-test.true in
    let begins = at_item c.args.shards.now 0 c.index-shards-0.result (omega (arith, below)) c.index-shards-0.is in
    let same = c.are_alike.ensures.0 c.if-not-are_alike.false in
    record {
      finding = finding_more g.R.Rack c.args.shards.now c.loop-shard.shard-index c.shard-item.result (get nat_eq c.loop-shard.found.newest) (get nat_eq c.note_all.new.self.newest)
          c.loop-shard.found.seq c.note_all.new.self.seq there c.requires.ready c.loop-shard.invariant.finding c.in-Ok.ensures.noted;
      keys = earlier_more c.args.shards.now c.loop-shard.shard-index c.shard-item.result (noted_in c.loop-shard.found.keys) (noted_in c.note_all.new.self.keys) there c.loop-shard.invariant.keys c.in-Ok.ensures.keys;
      together = together_more c.args.shards.now c.loop-shard.shard-index c.index-shards-0.result c.shard-item.result (noted_in c.loop-shard.found.keys) begins there same c.in-Ok.ensures.fresh c.loop-shard.invariant.keys
          c.loop-shard.invariant.together;
      bound = omega (arith, below);
    }

pub returns : goal.returns
returns g c = record {
  found =
      (let end = c.loop-shard-test.false in
      finding_all g.R.Rack c.args.shards.now c.loop-shard.shard-index (get nat_eq c.loop-shard.found.newest) c.loop-shard.found.seq (omega (arith, end)) c.loop-shard.invariant.finding);
  together =
      (let end = c.loop-shard-test.false in
      let most = c.loop-shard.invariant.bound in
      subst (AreTogether c.args.shards.now) (omega (arith, end, most)) c.loop-shard.invariant.together);
  faulty = λ metaslab place kind is. absurd (no_fault is);
}

pub returns-then-not-are_alike : goal.returns-then-not-are_alike
returns-then-not-are_alike g c =
    record {
      found = tt;
      together = tt;
      faulty = (let below = c.loop-shard-test.true in
          let there = at_item c.args.shards.now c.loop-shard.shard-index c.shard-item.result below c.shard-item.is in
          let begins = at_item c.args.shards.now 0 c.index-shards-0.result (omega (arith, below)) c.index-shards-0.is in
          other_arms c.args.shards.now g.R.Rack c.loop-shard.shard-index c.index-shards-0.result c.shard-item.result begins there c.requires.ready
          (λ same. absurd_test c.are_alike.result (c.are_alike.ensures.1 same) c.if-not-are_alike.true) c.loop-shard.invariant.together);
    }

pub returns-in-Err : goal.returns-in-Err
returns-in-Err g c =
    record {
      found = tt;
      together = tt;
      faulty = λ metaslab place kind err. (let there = at_item c.args.shards.now c.loop-shard.shard-index c.shard-item.result c.loop-shard-test.true c.shard-item.is in
          let below = c.loop-shard-test.true in
          let begins = at_item c.args.shards.now 0 c.index-shards-0.result (omega (arith, below)) c.index-shards-0.is in
          block_twice c.args.shards.now g.R.Rack c.loop-shard.shard-index c.index-shards-0.result c.shard-item.result (noted_in c.loop-shard.found.keys) (Some metaslab) place kind begins there
          (c.are_alike.ensures.0 c.if-not-are_alike.false) c.requires.ready c.loop-shard.invariant.keys c.loop-shard.invariant.together
          (c.in-Err.ensures.again metaslab place kind (passed c.in-Err.fault _ err)));
    }

pub offset_bounds-shards-shard-index : goal.offset_bounds-shards-shard-index
offset_bounds-shards-shard-index g c = (let below = c.loop-shard-test.true in omega (arith, below))

pub scale_in_slice-are_alike : goal.scale_in_slice-are_alike
scale_in_slice-are_alike g c = omega arith

pub bounds-shards-0 : goal.bounds-shards-0
bounds-shards-0 g c = (let below = c.loop-shard-test.true in omega (arith, below))

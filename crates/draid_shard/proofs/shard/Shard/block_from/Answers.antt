use Rattle.std.proofs.lemmas.Bool.{true≢false}
use Rattle.std.proofs.Common.{◌∙◌, sym, arith}
use Rattle.draid_shard.proofs.Passing.{block_first, block_passed, all_passed}
use Rattle.draid_shard.proofs.shard.Shard.block_from.Goals as goal

pub loop-entry-init : goal.loop-entry-init
loop-entry-init g c = record { none = λ e there from to block. absurd (omega (arith, from, to)); behind = omega arith }

pub overflow_add-stripe : goal.overflow_add-stripe
overflow_add-stripe g c = let low = c.in-Some.ensures.low in omega (arith, low)

pub loop-entry-smaller : goal.loop-entry-smaller
loop-entry-smaller g c = let low = c.in-Some.ensures.low in let from = c.in-Some.ensures.from in omega (arith, low, from)

pub returns-then-is_block_upto-clause-some : goal.returns-then-is_block_upto-clause-some
returns-then-is_block_upto-clause-some g c =
    let at = c.in-Some.ensures in
    let from = at.from in
    let behind = c.loop-entry.invariant.behind in
    record {
      stage = c.in-Some.entry.stage;
      there = at.there;
      block = c.is_block_upto.ensures.0 c.if-is_block_upto.true;
      behind = omega (arith, from, behind);
      first = block_first c.args.self.now.entries c.args.upto c.args.from c.loop-entry.stripe c.in-Some.entry.pointer.first c.loop-entry.invariant.none at.first;
    }

pub loop-entry-preserved : goal.loop-entry-preserved
loop-entry-preserved g c =
    let at = c.in-Some.ensures in
    let from = at.from in
    let behind = c.loop-entry.invariant.behind in
    record {
      none = block_passed c.args.self.now.entries c.args.upto c.args.from c.loop-entry.stripe c.in-Some.entry c.loop-entry.invariant.none at.first at.there
          (λ block. true≢false (sym (c.is_block_upto.ensures.1 block) ∙ c.if-is_block_upto.false));
      behind = omega (arith, from, behind);
    }

pub returns-clause-none : goal.returns-clause-none
returns-clause-none g c e there from block = c.loop-entry.invariant.none e there from (all_passed c.args.self.now.entries c.loop-entry.stripe e c.in_default.ensures.none there) block

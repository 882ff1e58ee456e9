use Rattle.std.proofs.Common.{arith, ◌∙◌, ap, ◌+◌}
use Rattle.draid_block.proofs.Parts.{narrow}
use Rattle.std.proofs.Common.{length}
use Rattle.draid_block.proofs.hashing.read_digest.Goals as goal

pub loop-i-init : goal.loop-i-init
loop-i-init c = record { has = c.new-front.ensures.front _ _; count = c.new-front.ensures.count }

pub loop-i-preserved : goal.loop-i-preserved
loop-i-preserved c = record {
  has = c.take.ensures.front _ c.loop-i.invariant.has (rw c.loop-i.invariant.count c.read_column.ensures);
  count = c.take.ensures.count ∙ ap (λ n. n + 1) c.loop-i.invariant.count;
}

pub overflow_add-geometry : goal.overflow_add-geometry
overflow_add-geometry c = omega (arith, narrow c.args.geometry.now c.requires.geometry, c.loop-i-test.true)

pub take-requires-clause-geometry : goal.take-requires-clause-geometry
take-requires-clause-geometry c = c.requires.geometry

pub take-requires-clause-long : goal.take-requires-clause-long
take-requires-clause-long c = ap length c.read_column.ensures ∙ c.requires.long _ (omega (arith, c.requires.count, c.loop-i-test.true))

pub take-requires-clause-more : goal.take-requires-clause-more
take-requires-clause-more c = rw c.loop-i.invariant.count c.loop-i-test.true

pub take-requires-clause-short : goal.take-requires-clause-short
take-requires-clause-short c = c.requires.short

pub read_column-requires : goal.read_column-requires
read_column-requires c = omega (arith, c.requires.count, c.loop-i-test.true)

pub returns : goal.returns
returns c = c.digest.ensures _ _ _ c.loop-i.invariant.has (omega (arith, c.loop-i.invariant.count, c.loop-i.auto.i-end, c.loop-i-test.false))

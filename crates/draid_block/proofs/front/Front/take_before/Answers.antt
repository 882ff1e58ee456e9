use Rattle.std.proofs.Common.{arith, refl}
use Rattle.draid_block.proofs.Parts.{narrow}
use Rattle.std.proofs.Common.{◌∙◌, ap, ◌+◌}
use Rattle.draid_parity.specs.Columns.{StripeValue}
use Rattle.draid_block.proofs.front.Front.take_before.Goals as goal

pub loop-i-init : goal.loop-i-init
loop-i-init c = record { has = c.requires.front; count = refl }

pub loop-i-preserved : goal.loop-i-preserved
loop-i-preserved c = record {
  has = c.take.ensures.front _ c.loop-i.invariant.has (rw c.loop-i.invariant.count c.column.ensures.value);
  count = c.take.ensures.count ∙ ap (λ n. n + 1) c.loop-i.invariant.count;
}

pub overflow_add-geometry : goal.overflow_add-geometry
overflow_add-geometry c = omega (arith, narrow c.args.geometry.now c.requires.geometry, c.requires.end, c.loop-i-test.true)

pub take-requires-clause-geometry : goal.take-requires-clause-geometry
take-requires-clause-geometry c = c.requires.geometry

pub take-requires-clause-long : goal.take-requires-clause-long
take-requires-clause-long c = c.column.ensures.len ∙ ap (λ (s : StripeValue). s.len) c.requires.shape

pub take-requires-clause-more : goal.take-requires-clause-more
take-requires-clause-more c = omega (arith, c.loop-i.invariant.count, c.requires.end, c.loop-i-test.true)

pub take-requires-clause-short : goal.take-requires-clause-short
take-requires-clause-short c = c.requires.short

pub column-requires : goal.column-requires
column-requires c =
    let parity = ap (λ (s : StripeValue). s.parity) c.requires.shape in
    let ndata = ap (λ (s : StripeValue). s.ndata) c.requires.shape in
    omega (arith, parity, ndata, c.requires.end, c.loop-i-test.true)

pub returns-clause-count : goal.returns-clause-count
returns-clause-count c = omega (arith, c.loop-i.invariant.count, c.loop-i.auto.i-end, c.requires.order, c.loop-i-test.false)

pub returns-clause-front : goal.returns-clause-front
returns-clause-front c = c.loop-i.invariant.has

use Rattle.std.proofs.Common.{arith}
use Rattle.draid_block.proofs.Fronts.{not_before}
use Rattle.draid_block.proofs.hashing.first_restored.Goals as goal

pub returns-then-i-geometry-clause-before : goal.returns-then-i-geometry-clause-before
returns-then-i-geometry-clause-before c = λ i below.
    not_before c.args.set.now c.args.geometry.now.spec.parity c.loop-i.i-index i c.requires.ascending c.loop-i.invariant (λ there. omega (arith, below))

pub returns-clause-before : goal.returns-clause-before
returns-clause-before c = λ i below.
    not_before c.args.set.now c.args.geometry.now.spec.parity c.loop-i.i-index i c.requires.ascending c.loop-i.invariant
    (λ there. absurd (let past = c.loop-i-test.false in omega (arith, there, past)))

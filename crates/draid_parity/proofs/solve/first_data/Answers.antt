use Rattle.std.proofs.Common.{arith}
use Rattle.draid_parity.proofs.Missing.{ascending_le}
use Rattle.draid_parity.proofs.solve.first_data.Goals as goal

pub returns-then-i-parity-clause-rest : goal.returns-then-i-parity-clause-rest
returns-then-i-parity-clause-rest c = λ n above below.
    let rest = ascending_le c.args.missing.now c.requires c.loop-n.n n above below in
    omega (arith, rest)

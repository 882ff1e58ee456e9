use Rattle.std.proofs.Common.{arith}
use Rattle.draid_block.specs.Blocks.{cut_of}
use Rattle.draid_block.proofs.Spread.{are_columns, only_columns}
use Rattle.draid_block.proofs.laws.columns_are_one.Goals as goal

pub returns-clause-are : goal.returns-clause-are
returns-clause-are c = λ geometry w g.
    (let columns = g.columns in
    let width = g.width in
    let disks = g.disks in
    let children = g.spec.most_children in
    are_columns (cut_of geometry) w g.spec.some_parity g.spec.most_parity g.spec.some_data (omega (arith, columns, width, disks, children)))

pub returns-clause-only : goal.returns-clause-only
returns-clause-only c = only_columns

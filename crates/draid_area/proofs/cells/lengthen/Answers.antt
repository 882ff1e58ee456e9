use Rattle.draid_area.proofs.Clocks.{reach_kept, reach_same}
use Rattle.draid_area.proofs.cells.lengthen.Goals as goal

pub returns-in_err-grow-clause-same : goal.returns-in_err-grow-clause-same
returns-in_err-grow-clause-same c = λ i. reach_same _ 0 _ _ _ c.grow.ensures.ok c.grow.ensures.err i

pub returns-in_err-grow-clause-kept : goal.returns-in_err-grow-clause-kept
returns-in_err-grow-clause-kept c = reach_kept _ 0 _ _ _ c.grow.ensures.ok c.grow.ensures.err

pub returns-clause-same : goal.returns-clause-same
returns-clause-same c = λ i. reach_same _ 0 _ _ _ c.grow.ensures.ok c.grow.ensures.err i

pub returns-clause-kept : goal.returns-clause-kept
returns-clause-kept c = reach_kept _ 0 _ _ _ c.grow.ensures.ok c.grow.ensures.err

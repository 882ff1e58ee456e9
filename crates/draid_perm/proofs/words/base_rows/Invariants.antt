use Rattle.draid_perm.proofs.BaseRows.{AreSoFar}
use Rattle.draid_perm.proofs.words.base_rows.Given as goal

abbrev pub invariant-loop-r : goal.invariant-loop-r
invariant-loop-r l = AreSoFar l.n l.seed l.r l.row l.rng l.rows

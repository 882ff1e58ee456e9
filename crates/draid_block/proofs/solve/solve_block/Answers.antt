use Rattle.draid_block.proofs.Complete.{is_answered}
use Rattle.std.proofs.Common.{arith, ◌∙◌}
use Rattle.draid_block.proofs.Parts.{narrow}
use Rattle.draid_block.proofs.Solves.{few_columns, has_digest}
use Rattle.std.proofs.Common.{ap}
use Rattle.draid_block.specs.Solving.{absent_columns}
use Rattle.draid_block.proofs.solve.solve_block.Goals as goal

pub returns-clause-readable : goal.returns-clause-readable
returns-clause-readable c = λ w bad r.
    is_answered c.args.geometry.now c.args.fetched.now w bad c.solve_absent.result c.requires.geometry c.requires.fetched c.solve_absent.ensures r

pub absent_of-requires : goal.absent_of-requires
absent_of-requires c = rw (c.deref.ensures.value, c.requires.fetched.count) (omega (arith, narrow c.args.geometry.now c.requires.geometry))

pub returns-clause-digest : goal.returns-clause-digest
returns-clause-digest c = has_digest c.args.geometry.now c.args.fetched.now c.solve_absent.result c.requires.geometry c.solve_absent.ensures

pub returns-clause-solves : goal.returns-clause-solves
returns-clause-solves c = c.solve_absent.ensures

pub solve_absent-requires-clause-absent : goal.solve_absent-requires-clause-absent
solve_absent-requires-clause-absent c = c.deref-2.ensures.value ∙ (c.in_ok-absent.ensures ∙ ap (λ columns. absent_columns columns) c.deref.ensures.value)

pub solve_absent-requires-clause-fetched : goal.solve_absent-requires-clause-fetched
solve_absent-requires-clause-fetched c = c.requires.fetched

pub solve_absent-requires-clause-few : goal.solve_absent-requires-clause-few
solve_absent-requires-clause-few c = few_columns c.args.geometry.now c.args.fetched.now _ c.requires.geometry c.requires.fetched (c.deref-2.ensures.value ∙ (c.in_ok-absent.ensures ∙ ap (λ columns. absent_columns columns) c.deref.ensures.value))

pub solve_absent-requires-clause-geometry : goal.solve_absent-requires-clause-geometry
solve_absent-requires-clause-geometry c = c.requires.geometry

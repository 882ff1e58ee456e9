use Rattle.std.proofs.Common.{◌∙◌, ap, subst, Result, IfOk}
use Rattle.std.specs.List.{AllZip}
use Rattle.rayon.proofs.ToStd.{slice-AllZip}
use Rattle.draid_names.specs.declared.fault.NoMemory.{NoMemory}
use Rattle.draid_spec.specs.declared.layout.Geometry.{Geometry}
use Rattle.draid_block.specs.Blocks.{cut_of}
use Rattle.draid_block.specs.Many.{IsSolved}
use Rattle.draid_block.specs.declared.many.Solve.{Solve}
use Rattle.draid_block.specs.declared.solve.Fetched.{Fetched}
use Rattle.draid_block.proofs.Answered.{many_are}
use Rattle.draid_block.proofs.many.solve_many.Goals as goal

pub returns : goal.returns
returns g c =
    let slice = ap (λ it. it.base.slice.now) c.map.ensures.base ∙ ap (λ it. it.slice.now) c.with_min_len.ensures.base ∙ c.par_iter.ensures in
    let given = c.in_ok-collect.ensures in
    let chain = given.1 in
    let held : Geometry = c.map.result.f.1.now in
    let R : Fetched → Solve → Type 0 = IsSolved (cut_of held) in
    record {
      answers = subst (λ (x : Geometry). IfOk c.in_ok-collect.field-0 (λ v. AllZip (IsSolved (cut_of x)) c.args.fetched.now v.items)) (ap (λ f. f.1.now) c.map.ensures.f)
          (many_are R c.args.fetched.now c.in_ok-collect.field-0 given.0
          (slice-AllZip chain.0 c.args.fetched.now (chain.1 ∙ slice) (λ (block : Fetched) (r : Result Solve NoMemory). IfOk r (R block)) given.0 chain.2)
          given.2);
    }

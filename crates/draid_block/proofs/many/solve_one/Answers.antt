use Rattle.std.proofs.Common.{◌∙◌, ap, Err}
use Rattle.draid_block.specs.Blocks.{cut_of}
use Rattle.draid_block.specs.declared.many.Solve.TheVariants.{Unreadable}
use Rattle.draid_block.proofs.Answered.{solved_is}
use Rattle.draid_block.proofs.many.solve_one.Goals as goal

pub returns-in-Err-Unreadable : goal.returns-in-Err-Unreadable
returns-in-Err-Unreadable c =
    solved_is (cut_of c.args.geometry.now) c.args.fetched.now c.solve_block.result (Unreadable c.in-Err-Unreadable.absent c.in-Err-Unreadable.tried)
    (c.in-Err-Unreadable.is ∙ ap Err c.in-Err-Unreadable.field-0-is) c.solve_block.ensures.solves c.solve_block.ensures.digest c.solve_block.ensures.readable

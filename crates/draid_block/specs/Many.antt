-- The answers for many blocks.
use Rattle.std.specs.Prelude.{ℕ, List, Result, Ok, Err}
use Rattle.std.specs.declared.vec.Vec.{Vec}
use Rattle.std.specs.declared.alloc.Global.{Global}
use Rattle.draid_block.specs.Columns.{Cut}
use Rattle.draid_block.specs.Solving.{AnswersDigest, IsAnswered, IsReadable, SolvesBlock}
use Rattle.draid_block.specs.declared.many.Solve.{Solve}
use Rattle.draid_block.specs.declared.many.Solve.TheVariants.{Bytes, Unreadable}
use Rattle.draid_block.specs.declared.solve.Fetched.{Fetched}
use Rattle.draid_block.specs.declared.solve.SolveFault.{SolveFault}
use Rattle.draid_block.specs.declared.solve.SolveFault.TheVariants as fault

-- an answer as `solve_block` gives it
abbrev pub answer_of : Solve → Result (Vec ℕ Global) SolveFault
answer_of (Bytes bytes) = Ok bytes
answer_of (Unreadable absent tried) = Err (fault.Unreadable absent tried)

-- the answer is what `solve_block` says of this block
pub record IsSolved (cut : Cut) (fetched : Fetched) (solve : Solve) : Type 0 where
  pub solves : SolvesBlock cut fetched (answer_of solve)
  pub digest : AnswersDigest fetched (answer_of solve)
  pub readable : (w bad : List ℕ) → IsReadable cut fetched w bad → IsAnswered (answer_of solve)

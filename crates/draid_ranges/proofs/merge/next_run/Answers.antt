use Rattle.std.proofs.Common.{arith}
use Rattle.draid_ranges.proofs.Unions.{next_left, next_right}
use Rattle.draid_ranges.proofs.Within.{no_run}
use Rattle.draid_ranges.proofs.merge.next_run.Goals as goal

pub returns-then-i-left : goal.returns-then-i-left
returns-then-i-left c = next_right c.args.left.now c.args.right.now c.args.i c.args.j no_run c.requires.left c.requires.right (omega arith) (omega (arith, c.requires.some)) (λ h. absurd (omega arith))

pub returns-then-j-right : goal.returns-then-j-right
returns-then-j-right c = next_left c.args.left.now c.args.right.now c.args.i c.args.j no_run c.requires.left c.requires.right (omega arith) (omega arith) (λ h. absurd (omega arith))

pub returns-then-left-i : goal.returns-then-left-i
returns-then-left-i c = next_left c.args.left.now c.args.right.now c.args.i c.args.j no_run c.requires.left c.requires.right (omega arith) (omega arith) (λ h. omega arith)

pub returns : goal.returns
returns c = next_right c.args.left.now c.args.right.now c.args.i c.args.j no_run c.requires.left c.requires.right (omega arith) (omega arith) (λ h. omega arith)

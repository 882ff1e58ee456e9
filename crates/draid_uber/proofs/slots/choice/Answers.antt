use Rattle.draid_uber.proofs.Recovers.{read_there}
use Rattle.std.proofs.Common.{inl, inr}
use Rattle.draid_uber.proofs.slots.choice.Goals as goal

pub returns-then-not-group-clause-ranges : goal.returns-then-not-group-clause-ranges
returns-then-not-group-clause-ranges c = λ body e. (read_there 0 c.args.zero.now c.read_uber.result body c.read_uber.ensures.found c.read_uber.ensures.exact e).0

pub returns-then-not-group-clause-stands : goal.returns-then-not-group-clause-stands
returns-then-not-group-clause-stands c = λ body e. let t = read_there 0 c.args.zero.now c.read_uber.result body c.read_uber.ensures.found c.read_uber.ensures.exact e in inl (t.1, t.2)

pub returns-then-second-2-clause-ranges : goal.returns-then-second-2-clause-ranges
returns-then-second-2-clause-ranges c = λ body e. (read_there 1 c.args.one.now c.read_uber-then-second-2.result body c.read_uber-then-second-2.ensures.found c.read_uber-then-second-2.ensures.exact e).0

pub returns-then-second-2-clause-stands : goal.returns-then-second-2-clause-stands
returns-then-second-2-clause-stands c = λ body e. let t = read_there 1 c.args.one.now c.read_uber-then-second-2.result body c.read_uber-then-second-2.ensures.found c.read_uber-then-second-2.ensures.exact e in inr (t.1, t.2)

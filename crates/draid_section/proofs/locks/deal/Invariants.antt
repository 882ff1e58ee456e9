use Rattle.std.proofs.Common.{◌≡◌, vec_capacity}
use Rattle.draid_section.proofs.Splitting.{Splits}
use Rattle.draid_section.proofs.locks.deal.Given as goal

abbrev pub invariant-loop-at : goal.invariant-loop-at
invariant-loop-at g l = Splits l.numbers l.at l.initial.firsts.items l.firsts.items l.passes.items × (vec_capacity l.passes ≡ vec_capacity l.initial.passes)

use Rattle.std.proofs.Common.{◌≡◌, vec_capacity, vec_len}
use Rattle.draid_holds.proofs.Splits.{Splitting}
use Rattle.draid_holds.proofs.passes.split_each.Given as goal

abbrev pub invariant-lists : goal.invariant-lists
invariant-lists g l = Splitting l.initial.first l.numbers l.list-index l.passes.items l.first × (vec_len l.passes ≡ l.list-index) × (vec_capacity l.passes ≡ vec_capacity l.initial.passes)

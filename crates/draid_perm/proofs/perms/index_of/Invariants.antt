use Rattle.std.proofs.Common.{◌≡◌, ◌==◌, true, drop}
use Rattle.std.specs.List.{list_any}
use Rattle.draid_perm.proofs.perms.index_of.Given as goal

abbrev pub invariant-loop-index : goal.invariant-loop-index
invariant-loop-index l = list_any (λ x. x == l.item) (drop l.index l.row) ≡ true

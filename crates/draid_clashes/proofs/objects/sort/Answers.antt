use Rattle.std.proofs.Common.{rules}
use Rattle.std.proofs.lemmas.List.Sorted.{IsNonDecreasingBy-from_sort_by_key}
use Rattle.draid_clashes.proofs.objects.sort.Goals as goal
use Rattle.draid_clashes.specs.declared.objects.Named.{Named}

pub returns-clause-sorted : goal.returns-clause-sorted
returns-clause-sorted c = IsNonDecreasingBy-from_sort_by_key (λ (n : Named). n.first) _ c.sort_unstable_by_key.ensures.sorted (λ a r q k. search rules)

use Rattle.std.proofs.Common.{◌≡◌}
use Rattle.draid_arms.specs.Rules.{greatest}
use Rattle.draid_arms.proofs.slots.last_group.Given as goal

abbrev pub invariant-loop-found : goal.invariant-loop-found
invariant-loop-found l = greatest l.last l.found-iterator ≡ greatest l.group l.held.entries

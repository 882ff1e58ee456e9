use Rattle.std.proofs.Common.{◌≡◌, drop}
use Rattle.std.specs.List.{list_any}
use Rattle.draid_arms.specs.Rules.{is_other_leaf}
use Rattle.draid_arms.proofs.rules.has_leaf_beside.Given as goal

abbrev pub invariant-loop-other : goal.invariant-loop-other
invariant-loop-other l = list_any (is_other_leaf l.name) l.names ≡ list_any (is_other_leaf l.name) (drop l.other-index l.names)

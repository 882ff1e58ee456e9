use Rattle.std.proofs.Common.{rules, ◌-◌}
use Rattle.std.proofs.lemmas.List.Edits.{map_over_more}
use Rattle.draid_faults.proofs.crash.complement.Goals as goal

pub loop-i-preserved : goal.loop-i-preserved
loop-i-preserved c = map_over_more (λ b. 255 - b) _ _ _ _ (search rules) c.loop-i.invariant (search rules)

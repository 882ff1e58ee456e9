use Rattle.draid_spec.proofs.Multiples.{first_not_above, next_not_above, least_found, lcm_unique}
use Rattle.draid_spec.proofs.numbers.least_common_multiple.Goals as goal

pub loop-multiple-init : goal.loop-multiple-init
loop-multiple-init c = first_not_above _ _ c.requires.left

pub loop-multiple-preserved : goal.loop-multiple-preserved
loop-multiple-preserved c = next_not_above _ _ _ c.requires.left c.loop-multiple.invariant c.loop-multiple-test.true

pub returns-clause-value : goal.returns-clause-value
returns-clause-value c = lcm_unique _ _ _ c.requires.left c.requires.right (least_found _ _ _ c.loop-multiple.invariant c.loop-multiple-test.false)

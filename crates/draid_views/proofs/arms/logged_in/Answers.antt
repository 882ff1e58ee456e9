use Rattle.std.proofs.Common.{◌≤◌, sym, subst}
use Rattle.draid_names.specs.declared.numbers.TheConstants.{NUMBERS}
use Rattle.draid_ranges.specs.Numbers.{has}
use Rattle.draid_views.proofs.Counts.{count_most}
use Rattle.draid_views.proofs.arms.logged_in.Goals as goal

pub returns-in-Some-clause-low : goal.returns-in-Some-clause-low
returns-in-Some-clause-low c = subst (λ n. n ≤ NUMBERS) (sym c.count.ensures.count) (count_most (has c.log.result.now) NUMBERS)

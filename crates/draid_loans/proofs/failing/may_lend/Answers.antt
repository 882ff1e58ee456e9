use Rattle.std.proofs.lemmas.Bool.{true≢false}
use Rattle.std.proofs.Common.{◌∙◌, sym}
use Rattle.draid_loans.proofs.failing.may_lend.Goals as goal

pub returns-then-is_lent-clause-no : goal.returns-then-is_lent-clause-no
returns-then-is_lent-clause-no c = λ e may. c.reads_all.ensures.no e may.fail

pub returns-else-is_lent-clause-yes : goal.returns-else-is_lent-clause-yes
returns-else-is_lent-clause-yes c = λ e. absurd (true≢false (sym e ∙ c.if-is_lent.false))

pub returns-else-is_lent-clause-no : goal.returns-else-is_lent-clause-no
returns-else-is_lent-clause-no c = λ e may. true≢false (sym may.lent ∙ sym c.is_lent.ensures ∙ c.if-is_lent.false)

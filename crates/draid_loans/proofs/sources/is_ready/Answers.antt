use Rattle.std.proofs.lemmas.Bool.{true≢false}
use Rattle.std.proofs.Common.{◌∙◌, sym}
use Rattle.draid_loans.proofs.sources.is_ready.Goals as goal

pub returns-then-answers-clause-yes : goal.returns-then-answers-clause-yes
returns-then-answers-clause-yes c = λ e. (sym c.answers.ensures ∙ c.if-answers.true, c.has_empty_log.ensures.yes e)

pub returns-then-answers-clause-no : goal.returns-then-answers-clause-no
returns-then-answers-clause-no c = λ e ready. c.has_empty_log.ensures.no e ready.1

pub returns-else-answers-clause-yes : goal.returns-else-answers-clause-yes
returns-else-answers-clause-yes c = λ e. absurd (true≢false (sym e ∙ c.if-answers.false))

pub returns-else-answers-clause-no : goal.returns-else-answers-clause-no
returns-else-answers-clause-no c = λ e ready. true≢false (sym ready.0 ∙ sym c.answers.ensures ∙ c.if-answers.false)

use Rattle.std.proofs.lemmas.Bool.{true≢false}
use Rattle.draid_scrubs.proofs.wholes.is_patched.Goals.{then-not-answers-via-then-not-answers, then-not-answers-via-else-not-answers+then-not-is_logged}
use Rattle.std.proofs.Common.{◌∙◌, ap, not, sym}
use Rattle.draid_scrubs.proofs.wholes.is_patched.Goals as goal

pub returns-then-not-answers-clause-yes : goal.returns-then-not-answers-clause-yes
returns-then-not-answers-clause-yes c = λ e answers dirty r less. elim c.then-not-answers.branch [
  | then-not-answers-via-then-not-answers w ↦ absurd (true≢false (sym answers ∙ sym c.answers.ensures ∙ w.if-not-answers.true))
  | then-not-answers-via-else-not-answers+then-not-is_logged w ↦ absurd (true≢false (ap not (sym w.if-not-is_logged.true ∙ w.is_logged.ensures) ∙ dirty))
]

pub returns-then-not-answers-clause-no : goal.returns-then-not-answers-clause-no
returns-then-not-answers-clause-no c = λ e. absurd (true≢false e)

pub returns-clause-yes : goal.returns-clause-yes
returns-clause-yes c = λ e answers dirty. c.rows_written.ensures.yes e

pub returns-clause-no : goal.returns-clause-no
returns-clause-no c = λ e patched.
    c.rows_written.ensures.no e (patched (sym c.answers.ensures ∙ c.if-not-answers.false) (ap not (sym c.is_logged.ensures ∙ c.if-not-is_logged.false)))

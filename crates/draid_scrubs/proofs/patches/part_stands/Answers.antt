use Rattle.std.proofs.Common.{◌∙◌, sym}
use Rattle.std.proofs.lemmas.Bool.{true≢false}
use Rattle.draid_scrubs.proofs.patches.part_stands.Goals as goal

pub returns-then-rows_stand-clause-yes : goal.returns-then-rows_stand-clause-yes
returns-then-rows_stand-clause-yes c = λ e. record { rows = c.rows_stand.ensures.yes c.if-rows_stand.true; landed = c.landed_were_written.ensures.yes e }

pub returns-then-rows_stand-clause-no : goal.returns-then-rows_stand-clause-no
returns-then-rows_stand-clause-no c = λ e stands. c.landed_were_written.ensures.no e stands.landed

pub returns-else-rows_stand-clause-yes : goal.returns-else-rows_stand-clause-yes
returns-else-rows_stand-clause-yes c = λ e. absurd (true≢false (sym e ∙ c.if-rows_stand.false))

pub returns-else-rows_stand-clause-no : goal.returns-else-rows_stand-clause-no
returns-else-rows_stand-clause-no c = λ e stands. c.rows_stand.ensures.no c.if-rows_stand.false stands.rows

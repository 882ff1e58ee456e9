use Rattle.std.proofs.lemmas.Bool.{true≢false}
use Rattle.std.proofs.Common.{◌≡◌, ◌≤◌, ◌∙◌, true, false, sym, arith}
use Rattle.draid_machine.specs.After.{was_written}
use Rattle.draid_machine.proofs.Small.{absurd_test}
use Rattle.draid_scrubs.proofs.Columns.{below_more}
use Rattle.draid_scrubs.proofs.wholes.rows_written.Goals as goal

pub returns-then-not-was_written-clause-no : goal.returns-then-not-was_written-clause-no
returns-then-not-was_written-clause-no c = λ e all.
    let fails : c.was_written.result ≡ false = c.if-not-was_written.true in
    absurd_test (was_written c.args.patched.now c.args.column c.args.arm c.loop-row.row) (all c.loop-row.row c.loop-row-test.true) (sym c.was_written.ensures ∙ fails)

pub loop-row-preserved : goal.loop-row-preserved
loop-row-preserved c =
    let passes : c.was_written.result ≡ true = c.if-not-was_written.false in
    below_more (λ r. was_written c.args.patched.now c.args.column c.args.arm r ≡ true) c.loop-row.row c.loop-row.invariant (sym c.was_written.ensures ∙ passes)

pub returns-clause-yes : goal.returns-clause-yes
returns-clause-yes c =
    let past : c.args.rows ≤ c.loop-row.row = c.loop-row-test.false in
    λ e r less. c.loop-row.invariant r (omega (arith, past, less))

pub loop-row-init : goal.loop-row-init
loop-row-init c = λ r less. absurd (omega (arith, less))

pub returns-then-not-was_written-clause-yes : goal.returns-then-not-was_written-clause-yes
returns-then-not-was_written-clause-yes c = λ e. absurd (true≢false (sym e))

pub returns-clause-no : goal.returns-clause-no
returns-clause-no c = λ e. absurd (true≢false e)

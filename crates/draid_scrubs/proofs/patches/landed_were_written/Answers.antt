use Rattle.std.proofs.lemmas.Bool.{true≢false}
use Rattle.std.proofs.Common.{◌≡◌, ◌<◌, ◌≤◌, ◌∙◌, true, false, get_or, length, arith, subst, sym, ap}
use Rattle.draid_machine.specs.After.{was_written}
use Rattle.draid_machine.specs.Names.{has_number}
use Rattle.draid_machine.proofs.Small.{absurd_test}
use Rattle.draid_world.proofs.Readings.{number_at, number_here}
use Rattle.draid_scrubs.proofs.patches.landed_were_written.Goals as goal

pub returns-then-not-was_written-clause-no : goal.returns-then-not-was_written-clause-no
returns-then-not-was_written-clause-no c =
    let rows = c.as_slice-rows.result.now in
    let part = c.args.part.now in
    let less : c.loop-row.row-index < length rows = c.loop-row-test.true in
    let fails : c.was_written.result ≡ false = c.if-not-was_written.true in
    λ e all. absurd_test (was_written c.args.patched.now part.column part.arm (get_or rows c.loop-row.row-index 0))
    (all (get_or rows c.loop-row.row-index 0) (ap (λ xs. has_number xs (get_or rows c.loop-row.row-index 0)) (sym c.as_slice-rows.ensures.value) ∙ number_here rows c.loop-row.row-index 0 less)) (sym c.was_written.ensures ∙ fails)

pub returns-clause-yes : goal.returns-clause-yes
returns-clause-yes c =
    let rows = c.as_slice-rows.result.now in
    let part = c.args.part.now in
    let past : length rows ≤ c.loop-row.row-index = c.loop-row-test.false in
    λ e r has.
    let z = number_at rows r (ap (λ xs. has_number xs r) c.as_slice-rows.ensures.value ∙ has) in
    let at = z.1 in
    subst (λ x. was_written c.args.patched.now part.column part.arm x ≡ true) z.2 (c.loop-row.invariant z.0 (omega (arith, at, past)))

pub loop-row-init : goal.loop-row-init
loop-row-init c = λ i less. absurd (omega (arith, less))

pub returns-then-not-was_written-clause-yes : goal.returns-then-not-was_written-clause-yes
returns-then-not-was_written-clause-yes c = λ e. absurd (true≢false (sym e))

pub returns-clause-no : goal.returns-clause-no
returns-clause-no c = λ e. absurd (true≢false e)

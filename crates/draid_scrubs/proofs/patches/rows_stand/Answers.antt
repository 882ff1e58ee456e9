use Rattle.std.proofs.Common.{◌≡◌, ◌<◌, ◌≤◌, ◌∙◌, true, false, get_or, length, inl, inr, arith, subst, sym, ap}
use Rattle.std.proofs.lemmas.Bool.{cases_eq, true≢false}
use Rattle.draid_machine.specs.Names.{has_number}
use Rattle.draid_world.proofs.Readings.{number_at, number_here}
use Rattle.draid_world.specs.World.{core_of, site_layout}
use Rattle.draid_scrubs.specs.Patches.{RowStands}
use Rattle.draid_scrubs.proofs.patches.rows_stand.Goals as goal

pub returns-then-not-row_stands-clause-no : goal.returns-then-not-row_stands-clause-no
returns-then-not-row_stands-clause-no c =
    let rows = c.as_slice-rows.result.now in
    let less : c.loop-row.row-index < length rows = c.loop-row-test.true in
    let fails : c.row_stands.result ≡ false = c.if-not-row_stands.true in
    λ e all. c.row_stands.ensures.no fails (all (get_or rows c.loop-row.row-index 0) (ap (λ xs. has_number xs (get_or rows c.loop-row.row-index 0)) (sym c.as_slice-rows.ensures.value) ∙ number_here rows c.loop-row.row-index 0 less))

pub loop-row-preserved : goal.loop-row-preserved
loop-row-preserved c =
    let passes : c.row_stands.result ≡ true = c.if-not-row_stands.false in
    let part = c.args.part.now in
    λ i less. elim (cases_eq i c.loop-row.row-index) [
      | inl at ↦ subst (λ k. RowStands (site_layout c.args.site.now) (core_of c.args.tables.now) c.args.held c.args.failed.now c.args.patched.now part.column part.arm (get_or c.as_slice-rows.result.now k 0)) (sym at)
          (c.row_stands.ensures.yes passes)
      | inr other ↦ c.loop-row.invariant i (omega (arith, less, other))
    ]

pub returns-clause-yes : goal.returns-clause-yes
returns-clause-yes c =
    let rows = c.as_slice-rows.result.now in
    let past : length rows ≤ c.loop-row.row-index = c.loop-row-test.false in
    let part = c.args.part.now in
    λ e r has.
    let z = number_at rows r (ap (λ xs. has_number xs r) c.as_slice-rows.ensures.value ∙ has) in
    let at = z.1 in
    subst (λ x. RowStands (site_layout c.args.site.now) (core_of c.args.tables.now) c.args.held c.args.failed.now c.args.patched.now part.column part.arm x) z.2 (c.loop-row.invariant z.0 (omega (arith, at, past)))

pub loop-row-init : goal.loop-row-init
loop-row-init c = λ i less. absurd (omega (arith, less))

pub returns-then-not-row_stands-clause-yes : goal.returns-then-not-row_stands-clause-yes
returns-then-not-row_stands-clause-yes c = λ e. absurd (true≢false (sym e))

pub returns-clause-no : goal.returns-clause-no
returns-clause-no c = λ e. absurd (true≢false e)

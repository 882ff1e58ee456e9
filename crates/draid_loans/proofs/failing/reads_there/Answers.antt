use Rattle.std.proofs.Common.{◌≤◌, inl, inr, arith, subst, sym}
use Rattle.std.proofs.lemmas.Bool.{cases_eq, true≢false}
use Rattle.draid_loans.specs.Lending.{ReadsAt}
use Rattle.draid_world.specs.World.{core_of, pass_of, site_layout}
use Rattle.draid_loans.proofs.failing.reads_there.Goals as goal

pub loop-column-preserved : goal.loop-column-preserved
loop-column-preserved c = λ k less reads. elim (cases_eq k c.loop-column.column) [
  | inl at ↦ c.reads_at.ensures.no c.if-reads_at.false
      (subst (λ x. ReadsAt (site_layout c.args.site.now) (core_of c.args.tables.now) (pass_of c.args.pass.now) c.args.held c.args.stripe x c.args.leaf) at reads)
  | inr other ↦ c.loop-column.invariant k (omega (arith, less, other)) reads
]

pub returns-clause-no : goal.returns-clause-no
returns-clause-no c = λ e r.
    let past : c.args.site.now.geometry.g ≤ c.loop-column.column = c.loop-column-test.false in
    let column = r.column in
    c.loop-column.invariant r.c (omega (arith, past, column)) (record { n = r.n; rebuild = r.rebuild; heal = r.heal; lies = r.lies })

pub loop-column-init : goal.loop-column-init
loop-column-init c = λ k less reads. absurd (omega (arith, less))

pub returns-then-reads_at-clause-no : goal.returns-then-reads_at-clause-no
returns-then-reads_at-clause-no c = λ e. absurd (true≢false e)

pub returns-clause-yes : goal.returns-clause-yes
returns-clause-yes c = λ e. absurd (true≢false (sym e))

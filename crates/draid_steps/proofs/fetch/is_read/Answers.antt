use Rattle.std.proofs.Common.{inl, inr, arith, subst, sym}
use Rattle.std.proofs.lemmas.Bool.{cases_eq, true≢false}
use Rattle.draid_steps.specs.Reads.{ReadsFrom}
use Rattle.draid_world.specs.World.{core_of, site_layout}
use Rattle.draid_steps.proofs.fetch.is_read.Goals as goal

pub loop-column-preserved : goal.loop-column-preserved
loop-column-preserved c = λ k n less reads lies. elim (cases_eq k c.loop-column.column) [
  | inl at ↦ c.reads_from.ensures.no c.if-reads_from.false (subst (λ x. ReadsFrom (site_layout c.args.site.now) (core_of c.args.tables.now) c.args.held x c.args.leaf) at (n, reads, lies))
  | inr other ↦ c.loop-column.invariant k n (omega (arith, less, other)) reads lies
]

pub loop-column-init : goal.loop-column-init
loop-column-init c = λ k n less. absurd (omega (arith, less))

pub returns-then-reads_from-clause-yes : goal.returns-then-reads_from-clause-yes
returns-then-reads_from-clause-yes c = λ e. let read = c.reads_from.ensures.yes c.if-reads_from.true in (c.loop-column.column, read.0, c.loop-column-test.true, read.1, read.2)

pub returns-then-reads_from-clause-no : goal.returns-then-reads_from-clause-no
returns-then-reads_from-clause-no c = λ e. absurd (true≢false e)

pub returns-clause-yes : goal.returns-clause-yes
returns-clause-yes c = λ e. absurd (true≢false (sym e))

pub returns-clause-no : goal.returns-clause-no
returns-clause-no c = λ e read.
    let less = read.2 in
    let past = c.loop-column-test.false in
    c.loop-column.invariant read.0 read.1 (omega (arith, less, past)) read.3 read.4

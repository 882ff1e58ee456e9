use Rattle.std.proofs.Common.{◌≤◌, ◌∙◌, ap, sym, inl, inr, arith, subst}
use Rattle.std.proofs.lemmas.Bool.{cases_eq, true≢false}
use Rattle.draid_machine.specs.Names.{has_name}
use Rattle.draid_machine.specs.Step.{FailsThere}
use Rattle.draid_world.specs.World.{core_of, names_at, site_layout}
use Rattle.draid_scrubs.proofs.wholes.heals_there.Goals as goal

pub returns-then-any_answers-clause-yes : goal.returns-then-any_answers-clause-yes
returns-then-any_answers-clause-yes c = λ e.
    let l = site_layout c.args.site.now in
    let q = core_of c.args.tables.now in
    let names = c.names_of-names.ensures ∙ ap (λ vs. names_at vs c.slot_of.result) c.deref.ensures.value ∙ ap (names_at c.args.tables.now.order.items) c.slot_of.ensures in
    let z = c.any_answers.ensures.yes c.if-any_answers.true in
    record {
      column = c.loop-column.column;
      inside = c.loop-column-test.true;
      there = record { arm = z.arm; listed = ap (λ ns. has_name ns z.arm) (sym names) ∙ z.listed; lies = z.lies; answers = z.answers };
    }

pub loop-column-preserved : goal.loop-column-preserved
loop-column-preserved c =
    let l = site_layout c.args.site.now in
    let q = core_of c.args.tables.now in
    let names = c.names_of-names.ensures ∙ ap (λ vs. names_at vs c.slot_of.result) c.deref.ensures.value ∙ ap (names_at c.args.tables.now.order.items) c.slot_of.ensures in
    λ k less there. elim (cases_eq k c.loop-column.column) [
      | inl at ↦ (let z = subst (λ x. FailsThere l q c.args.held x c.args.leaf) at there in
          c.any_answers.ensures.no c.if-any_answers.false (record { arm = z.arm; listed = ap (λ ns. has_name ns z.arm) names ∙ z.listed; lies = z.lies; answers = z.answers }))
      | inr other ↦ c.loop-column.invariant k (omega (arith, less, other)) there
    ]

pub returns-clause-no : goal.returns-clause-no
returns-clause-no c = λ e heals.
    let past : c.args.site.now.geometry.g ≤ c.loop-column.column = c.loop-column-test.false in
    let inside = heals.inside in
    c.loop-column.invariant heals.column (omega (arith, past, inside)) heals.there

pub loop-column-init : goal.loop-column-init
loop-column-init c = λ k less fails. absurd (omega (arith, less))

pub returns-then-any_answers-clause-no : goal.returns-then-any_answers-clause-no
returns-then-any_answers-clause-no c = λ e. absurd (true≢false e)

pub returns-clause-yes : goal.returns-clause-yes
returns-clause-yes c = λ e. absurd (true≢false (sym e))

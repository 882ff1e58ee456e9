use Rattle.std.proofs.lemmas.Bool.{true≢false}
use Rattle.std.proofs.Common.{◌≡◌, ◌≤◌, ◌∙◌, true, false, ap, sym, arith, subst}
use Rattle.draid_world.specs.World.{core_of, names_at, site_layout}
use Rattle.draid_scrubs.specs.Wholes.{AreOn, IsArmWhole}
use Rattle.draid_scrubs.proofs.Columns.{below_more}
use Rattle.draid_scrubs.proofs.wholes.is_whole.Goals as goal

pub returns-then-not-names_are_whole-clause-no : goal.returns-then-not-names_are_whole-clause-no
returns-then-not-names_are_whole-clause-no c = λ e all.
    let l = site_layout c.args.site.now in
    let q = core_of c.args.tables.now in
    let names = c.names_of-names.ensures ∙ ap (λ vs. names_at vs c.slot_of.result) c.deref.ensures.value ∙ ap (names_at c.args.tables.now.order.items) c.slot_of.ensures in
    let fails : c.names_are_whole.result ≡ false = c.if-not-names_are_whole.true in
    c.names_are_whole.ensures.no fails (subst (AreOn (IsArmWhole l q c.args.held c.args.failed.now)) (sym names) (all c.loop-column.column c.loop-column-test.true))

pub loop-column-preserved : goal.loop-column-preserved
loop-column-preserved c =
    let l = site_layout c.args.site.now in
    let q = core_of c.args.tables.now in
    let names = c.names_of-names.ensures ∙ ap (λ vs. names_at vs c.slot_of.result) c.deref.ensures.value ∙ ap (names_at c.args.tables.now.order.items) c.slot_of.ensures in
    let passes : c.names_are_whole.result ≡ true = c.if-not-names_are_whole.false in
    below_more (λ k. AreOn (IsArmWhole l q c.args.held c.args.failed.now) (q.order (l.slot_of c.args.held.first k))) c.loop-column.column c.loop-column.invariant
    (subst (AreOn (IsArmWhole l q c.args.held c.args.failed.now)) names (c.names_are_whole.ensures.yes passes))

pub returns-clause-yes : goal.returns-clause-yes
returns-clause-yes c =
    let past : c.args.site.now.geometry.g ≤ c.loop-column.column = c.loop-column-test.false in
    λ e k less. c.loop-column.invariant k (omega (arith, past, less))

pub returns-then-not-names_are_whole-clause-yes : goal.returns-then-not-names_are_whole-clause-yes
returns-then-not-names_are_whole-clause-yes c = λ e. absurd (true≢false (sym e))

pub returns-clause-no : goal.returns-clause-no
returns-clause-no c = λ e. absurd (true≢false e)

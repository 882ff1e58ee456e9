use Rattle.std.proofs.Common.{◌∙◌, ap, sym}
use Rattle.std.proofs.lemmas.Bool.{true≢false}
use Rattle.draid_world.specs.World.{core_of, names_at, site_layout}
use Rattle.draid_steps.proofs.Written.{may_land, not_listed, not_right, not_used}
use Rattle.draid_steps.proofs.columns.may_land.Goals as goal

pub returns-then-not-are_listed-clause-no : goal.returns-then-not-are_listed-clause-no
returns-then-not-are_listed-clause-no c = λ e may.
    not_listed (site_layout c.args.site.now) (core_of c.args.tables.now) c.args.held.now c.args.column c.args.landed.now c.args.failed.now c.names_of-names.result.now
    (c.names_of-names.ensures ∙ ap (λ vs. names_at vs c.slot_of.result) c.deref.ensures.value ∙ ap (names_at c.args.tables.now.order.items) c.slot_of.ensures)
    (sym c.if-not-are_listed.ensures) may

pub returns-then-not-are_right-clause-no : goal.returns-then-not-are_right-clause-no
returns-then-not-are_right-clause-no c = λ e may.
    not_right (site_layout c.args.site.now) (core_of c.args.tables.now) c.args.held.now c.args.column c.args.landed.now c.args.failed.now c.names_of-names.result.now
    (c.names_of-names.ensures ∙ ap (λ vs. names_at vs c.slot_of.result) c.deref.ensures.value ∙ ap (names_at c.args.tables.now.order.items) c.slot_of.ensures)
    (sym c.if-not-are_right.ensures) may

pub returns-clause-yes : goal.returns-clause-yes
returns-clause-yes c = λ e.
    may_land (site_layout c.args.site.now) (core_of c.args.tables.now) c.args.held.now c.args.column c.args.landed.now c.args.failed.now c.names_of-names.result.now
    (c.names_of-names.ensures ∙ ap (λ vs. names_at vs c.slot_of.result) c.deref.ensures.value ∙ ap (names_at c.args.tables.now.order.items) c.slot_of.ensures)
    (sym c.if-not-are_listed.ensures) (sym c.if-not-are_right.ensures) (sym c.are_used.ensures ∙ e)

pub returns-clause-no : goal.returns-clause-no
returns-clause-no c = λ e may.
    not_used (site_layout c.args.site.now) (core_of c.args.tables.now) c.args.held.now c.args.column c.args.landed.now c.args.failed.now c.names_of-names.result.now
    (c.names_of-names.ensures ∙ ap (λ vs. names_at vs c.slot_of.result) c.deref.ensures.value ∙ ap (names_at c.args.tables.now.order.items) c.slot_of.ensures)
    (sym c.are_used.ensures ∙ e) may

pub returns-then-not-are_listed-clause-yes : goal.returns-then-not-are_listed-clause-yes
returns-then-not-are_listed-clause-yes c = λ e. absurd (true≢false (sym e))

pub returns-then-not-are_right-clause-yes : goal.returns-then-not-are_right-clause-yes
returns-then-not-are_right-clause-yes c = λ e. absurd (true≢false (sym e))

use Rattle.std.proofs.Common.{◌∙◌, ap, sym}
use Rattle.draid_world.specs.World.{core_of, names_at, site_layout}
use Rattle.draid_world.proofs.Readings.{reading_else, reading_first}
use Rattle.draid_world.proofs.site.Site.reading.Goals as goal

pub returns-in-None : goal.returns-in-None
returns-in-None c =
    c.first_answering.ensures
    ∙ reading_else (site_layout c.args.self.now) (core_of c.args.tables.now) c.args.held c.args.column c.names_of-names.result.now
    (c.names_of-names.ensures ∙ ap (λ vs. names_at vs c.slot_of.result) c.deref.ensures.value ∙ ap (names_at c.args.tables.now.order.items) c.slot_of.ensures)
    (sym c.first_clean.ensures ∙ c.in-None.is)

pub returns-in-Some : goal.returns-in-Some
returns-in-Some c =
    reading_first (site_layout c.args.self.now) (core_of c.args.tables.now) c.args.held c.args.column c.names_of-names.result.now c.in-Some.name
    (c.names_of-names.ensures ∙ ap (λ vs. names_at vs c.slot_of.result) c.deref.ensures.value ∙ ap (names_at c.args.tables.now.order.items) c.slot_of.ensures)
    (sym c.first_clean.ensures ∙ c.in-Some.is)

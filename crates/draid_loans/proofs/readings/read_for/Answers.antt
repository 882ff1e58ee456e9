use Rattle.std.proofs.Common.{◌≡◌, ◌∙◌, true, ap, sym}
use Rattle.draid_machine.specs.Names.{is_heal}
use Rattle.draid_world.specs.World.{core_of, names_at, pass_of, site_layout}
use Rattle.draid_loans.proofs.Loaned.{arms_heal}
use Rattle.draid_world.proofs.Maps.{ok_map}
use Rattle.draid_loans.proofs.readings.read_for.Goals as goal

pub returns : goal.returns
returns c =
    let l = site_layout c.args.site.now in
    let q = core_of c.args.tables.now in
    let heal : is_heal c.args.pass.now.kind ≡ true = sym c.is_heal.ensures ∙ c.if-not-is_heal.false in
    let names = c.names_of-names.ensures ∙ ap (λ vs. names_at vs c.slot_of.result) c.deref.ensures.value ∙ ap (names_at c.args.tables.now.order.items) c.slot_of.ensures in
    ok_map c.answering.result _ _
    (λ v is. is ∙ arms_heal l q (pass_of c.args.pass.now) c.args.held c.args.stripe c.args.failed.now c.args.column c.args.name c.names_of-names.result.now heal names) c.answering.ensures

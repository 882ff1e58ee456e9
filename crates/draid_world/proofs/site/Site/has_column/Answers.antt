use Rattle.std.proofs.Common.{◌∙◌, ap, refl, sym}
use Rattle.draid_machine.specs.Names.{has_name}
use Rattle.draid_machine.proofs.Small.{any_at}
use Rattle.draid_world.specs.World.{core_of, names_at, site_layout}
use Rattle.draid_world.proofs.Anys.{any_more}
use Rattle.draid_world.proofs.site.Site.has_column.Goals as goal

pub returns-then-is_among : goal.returns-then-is_among
returns-then-is_among c =
    let l = site_layout c.args.self.now in
    let q = core_of c.args.tables.now in
    let names = c.names_of.ensures ∙ ap (λ vs. names_at vs c.slot_of.result) c.deref.ensures.value ∙ ap (names_at c.args.tables.now.order.items) c.slot_of.ensures in
    sym (any_at l.columns (λ x. has_name (q.order (l.slot_of c.args.stripe x)) c.args.name) c.loop-column.column c.loop-column-test.true
    (ap (λ ns. has_name ns c.args.name) (sym names) ∙ sym c.is_among.ensures ∙ c.if-is_among.true))

pub loop-column-init : goal.loop-column-init
loop-column-init c = refl

pub loop-column-preserved : goal.loop-column-preserved
loop-column-preserved c =
    let l = site_layout c.args.self.now in
    let q = core_of c.args.tables.now in
    let names = c.names_of.ensures ∙ ap (λ vs. names_at vs c.slot_of.result) c.deref.ensures.value ∙ ap (names_at c.args.tables.now.order.items) c.slot_of.ensures in
    any_more c.loop-column.column (λ x. has_name (q.order (l.slot_of c.args.stripe x)) c.args.name) c.loop-column.invariant
    (ap (λ ns. has_name ns c.args.name) (sym names) ∙ sym c.is_among.ensures ∙ c.if-is_among.false)

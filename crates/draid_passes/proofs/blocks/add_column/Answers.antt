use Rattle.std.proofs.Common.{◌∙◌, ap, subst}
use Rattle.draid_passes.specs.Blocks.{Adds, OnNames}
use Rattle.draid_world.proofs.Maps.{on_ok}
use Rattle.draid_world.specs.World.{core_of, names_at, site_layout}
use Rattle.draid_passes.proofs.blocks.add_column.Goals as goal

pub returns : goal.returns
returns c =
    let l = site_layout c.args.site.now in
    let q = core_of c.args.tables.now in
    let part = c.args.part in
    let names = c.names_of.ensures ∙ ap (λ vs. names_at vs c.slot_of-slot.result) c.deref.ensures.value ∙ ap (names_at c.args.tables.now.order.items) c.slot_of-slot.ensures in
    on_ok c.add_names.result (λ adds. subst (λ ns. Adds (OnNames l q.order part.key part.held part.column ns) c.args.out.now.items c.add_names.new.out.items) names adds) c.add_names.ensures

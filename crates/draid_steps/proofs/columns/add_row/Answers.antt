use Rattle.std.proofs.Common.{◌≡◌, ◌+◌, ◌∙◌, sym, ap, Some}
use Rattle.draid_machine.specs.Arms.{leaf_at}
use Rattle.draid_machine.specs.Names.{has_segment}
use Rattle.draid_world.specs.World.{names_at, site_layout}
use Rattle.draid_world.proofs.Maps.{on_ok}
use Rattle.draid_steps.proofs.Segments.{in_row}
use Rattle.draid_steps.proofs.columns.add_row.Goals as goal

pub returns : goal.returns
returns c =
    let l = site_layout c.args.site.now in
    let order = names_at c.args.order.now in
    let part = c.args.part in
    let at : Some c.in-Some.leaf ≡ leaf_at l order part.arm (c.args.held.now.first + c.args.row) =
    sym c.in-Some.is ∙ c.leaf_at.ensures ∙ ap (λ r. leaf_at l order part.arm (c.args.held.now.first + r)) c.from.ensures in
    on_ok c.add_segment.result (λ is s. is s ∙ in_row l order part.key c.args.held.now part.column part.arm c.in-Some.leaf c.args.row s (has_segment c.args.segments.now.keys s) at) c.add_segment.ensures

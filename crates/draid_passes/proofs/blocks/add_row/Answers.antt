use Rattle.std.proofs.Common.{◌+◌, ◌∙◌, ap, sym}
use Rattle.draid_machine.specs.Arms.{leaf_at}
use Rattle.draid_world.specs.World.{core_of, names_at, site_layout}
use Rattle.draid_passes.proofs.Grown.{row_none, row_some}
use Rattle.draid_passes.proofs.blocks.add_row.Goals as goal

pub returns-in_default : goal.returns-in_default
returns-in_default c =
    let l = site_layout c.args.site.now in
    let part = c.args.part in
    let is = ap (λ vs. leaf_at l (names_at vs) c.args.name (part.held.first + c.args.row)) (sym c.deref.ensures.value) ∙ ap (λ r. leaf_at l (names_at c.deref.result.now) c.args.name (part.held.first + r)) (sym c.from.ensures) ∙ sym c.leaf_at.ensures ∙ c.in_default.is in
    row_none l (core_of c.args.tables.now).order part.key part.held part.column c.args.name c.args.row c.args.out.now.items is

pub returns : goal.returns
returns c =
    let l = site_layout c.args.site.now in
    let part = c.args.part in
    let is = ap (λ vs. leaf_at l (names_at vs) c.args.name (part.held.first + c.args.row)) (sym c.deref.ensures.value) ∙ ap (λ r. leaf_at l (names_at c.deref.result.now) c.args.name (part.held.first + r)) (sym c.from.ensures) ∙ sym c.leaf_at.ensures ∙ c.in-Some.is in
    row_some l (core_of c.args.tables.now).order part.key part.held part.column c.args.name c.args.row c.in-Some.leaf c.args.out.now.items c.push.new.self.items is c.requires.row c.in_ok-push.ensures.items

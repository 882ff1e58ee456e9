use Rattle.std.proofs.Common.{◌≤◌}
use Rattle.draid_machine.specs.declared.names.Segment.{Segment}
use Rattle.draid_world.specs.World.{core_of, site_layout}
use Rattle.draid_passes.specs.Blocks.{OnArm}
use Rattle.draid_passes.proofs.Grown.{bounded_more, bounded_none, rows_all}
use Rattle.draid_passes.proofs.blocks.add_rows.Goals as goal

pub loop-row-init : goal.loop-row-init
loop-row-init c =
    let part = c.args.part in
    bounded_none (OnArm (site_layout c.args.site.now) (core_of c.args.tables.now).order part.key part.held part.column c.args.name) (λ (s : Segment). s.row) c.args.out.now.items

pub loop-row-preserved : goal.loop-row-preserved
loop-row-preserved c =
    let part = c.args.part in
    bounded_more (OnArm (site_layout c.args.site.now) (core_of c.args.tables.now).order part.key part.held part.column c.args.name) (λ (s : Segment). s.row) c.loop-row.row c.args.out.now.items
    c.loop-row.out.items c.add_row.new.out.items c.loop-row.invariant c.in_ok-add_row.ensures

pub returns : goal.returns
returns c =
    let part = c.args.part in
    let past : part.held.stripes ≤ c.loop-row.row = c.loop-row-test.false in
    rows_all (site_layout c.args.site.now) (core_of c.args.tables.now).order part.key part.held part.column c.args.name c.loop-row.row c.args.out.now.items c.loop-row.out.items past c.loop-row.invariant

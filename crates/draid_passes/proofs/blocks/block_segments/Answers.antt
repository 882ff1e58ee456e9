use Rattle.std.proofs.Common.{◌<◌, ◌≤◌, [], rules, sym, subst}
use Rattle.draid_machine.specs.declared.names.Segment.{Segment}
use Rattle.draid_world.specs.World.{core_of, site_layout}
use Rattle.draid_passes.specs.Blocks.{Adds, OnColumn}
use Rattle.draid_passes.proofs.Grown.{bounded_none, column_more, segments_all}
use Rattle.draid_passes.proofs.blocks.block_segments.Goals as goal

pub loop-column-init : goal.loop-column-init
loop-column-init c =
    let l = site_layout c.args.site.now in
    let order = (core_of c.args.tables.now).order in
    subst (λ ys. Adds (λ (s : Segment). OnColumn l order c.args.key c.args.held s.column s × (s.column < 0)) [] ys) (sym c.new-out.ensures.items)
    (bounded_none (λ (s : Segment). OnColumn l order c.args.key c.args.held s.column s) (λ (s : Segment). s.column) [])

pub loop-column-preserved : goal.loop-column-preserved
loop-column-preserved c =
    column_more (site_layout c.args.site.now) (core_of c.args.tables.now).order c.args.key c.args.held c.loop-column.column [] c.loop-column.out.items c.add_column.new.out.items c.loop-column.invariant
    c.in_ok-add_column.ensures

pub returns : goal.returns
returns c =
    let l = site_layout c.args.site.now in
    let past : l.columns ≤ c.loop-column.column = c.loop-column-test.false in
    let within : c.loop-column.column ≤ l.columns = search rules in
    segments_all l (core_of c.args.tables.now).order c.args.key c.args.held c.loop-column.column c.loop-column.out.items past within c.loop-column.invariant

use Rattle.std.proofs.Common.{◌≡◌, ◌||◌, ◌∙◌, ap, arith}
use Rattle.draid_machine.specs.Names.{has_segment}
use Rattle.draid_world.specs.World.{names_at, site_layout}
use Rattle.draid_steps.specs.Columns.{is_row}
use Rattle.draid_steps.proofs.Rows.{rows_more, rows_none}
use Rattle.draid_steps.proofs.columns.add_rows.Goals as goal

pub loop-row-preserved : goal.loop-row-preserved
loop-row-preserved c = λ s.
    let part = c.args.part in
    rows_more (site_layout c.args.site.now) (names_at c.args.order.now) part.key c.args.held.now part.column part.arm c.loop-row.row s
    (has_segment c.args.segments.now.keys s) (has_segment c.loop-row.segments.keys s) (has_segment c.add_row.new.segments.keys s) (c.loop-row.invariant s) (c.in_ok-add_row.ensures s)

pub loop-row-init : goal.loop-row-init
loop-row-init c = λ s.
    let part = c.args.part in
    rows_none (site_layout c.args.site.now) (names_at c.args.order.now) part.key c.args.held.now part.column part.arm s (has_segment c.args.segments.now.keys s)

pub returns : goal.returns
returns c = λ s.
    let part = c.args.part in
    let end : c.loop-row.row ≡ c.args.held.now.stripes = (let upto = c.loop-row.auto.row-end in let past = c.loop-row-test.false in omega (arith, upto, past)) in
    c.loop-row.invariant s
    ∙ ap (λ r. has_segment c.args.segments.now.keys s || is_row (site_layout c.args.site.now) (names_at c.args.order.now) part.key c.args.held.now part.column part.arm r s) end

use Rattle.std.proofs.Common.{◌≡◌, ◌||◌}
use Rattle.draid_machine.specs.Names.{has_segment}
use Rattle.draid_machine.specs.declared.names.Segment.{Segment}
use Rattle.draid_world.specs.World.{names_at, site_layout}
use Rattle.draid_steps.specs.Columns.{is_row}
use Rattle.draid_steps.proofs.columns.add_rows.Given as goal

abbrev pub invariant-loop-row : goal.invariant-loop-row
invariant-loop-row l = (s : Segment) →
    has_segment l.segments.keys s ≡ (has_segment l.fn.segments.keys s || is_row (site_layout l.site) (names_at l.order) l.part.key l.held l.part.column l.part.arm l.row s)

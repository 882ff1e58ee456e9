use Rattle.std.proofs.Common.{◌<◌}
use Rattle.draid_machine.specs.declared.names.Segment.{Segment}
use Rattle.draid_passes.specs.Blocks.{Adds, OnArm}
use Rattle.draid_world.specs.World.{core_of, site_layout}
use Rattle.draid_passes.proofs.blocks.add_rows.Given as goal

abbrev pub invariant-loop-row : goal.invariant-loop-row
invariant-loop-row l =
    Adds (λ (s : Segment). OnArm (site_layout l.site) (core_of l.tables).order l.part.key l.part.held l.part.column l.name s × (s.row < l.row)) l.fn.out.items l.out.items

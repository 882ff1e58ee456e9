use Rattle.std.proofs.Common.{◌<◌, []}
use Rattle.draid_machine.specs.declared.names.Segment.{Segment}
use Rattle.draid_passes.specs.Blocks.{Adds, OnColumn}
use Rattle.draid_world.specs.World.{core_of, site_layout}
use Rattle.draid_passes.proofs.blocks.block_segments.Given as goal

abbrev pub invariant-loop-column : goal.invariant-loop-column
invariant-loop-column l =
    Adds (λ (s : Segment). OnColumn (site_layout l.site) (core_of l.tables).order l.key l.held s.column s × (s.column < l.column)) [] l.out.items

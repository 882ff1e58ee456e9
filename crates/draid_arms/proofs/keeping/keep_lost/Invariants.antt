use Rattle.std.proofs.Common.{◌≡◌, ◌&&◌, Some, if◌then◌else◌}
use Rattle.draid_machine.specs.Names.{has_segment}
use Rattle.draid_machine.specs.declared.names.Segment.{Segment}
use Rattle.draid_world.specs.World.{core_of, kept_in, names_at, site_layout}
use Rattle.draid_arms.specs.Moves.{is_lost}
use Rattle.draid_arms.proofs.keeping.keep_lost.Given as goal

abbrev pub invariant-loop-segment : goal.invariant-loop-segment
invariant-loop-segment l = (s : Segment) →
    (if has_segment l.segment-iterator s && is_lost (site_layout l.site) (names_at l.before) (core_of l.tables) s then Some l.group else kept_in l.kept.entries s)
    ≡ (if has_segment l.segments.keys s && is_lost (site_layout l.site) (names_at l.before) (core_of l.tables) s then Some l.group else kept_in l.fn.kept.entries s)

use Rattle.std.proofs.Common.{◌≡◌, ◌&&◌, ◌||◌, drop}
use Rattle.draid_machine.specs.Claims.{claims}
use Rattle.draid_machine.specs.Names.{has_segment}
use Rattle.draid_machine.specs.declared.names.Segment.{Segment}
use Rattle.draid_world.specs.World.{core_of, site_layout}
use Rattle.draid_images.proofs.openings.add_all_claimed.Given as goal

abbrev pub invariant-loop-segment : goal.invariant-loop-segment
invariant-loop-segment l = (s : Segment) →
    (has_segment l.set.keys s || (has_segment (drop l.segment-index l.segments) s && claims (site_layout l.site) (core_of l.tables) s))
    ≡ (has_segment l.fn.set.keys s || (has_segment l.segments s && claims (site_layout l.site) (core_of l.tables) s))

use Rattle.std.proofs.Common.{◌≡◌, ◌&&◌, ◌||◌}
use Rattle.draid_machine.specs.After.{stays}
use Rattle.draid_machine.specs.Names.{has_segment}
use Rattle.draid_machine.specs.declared.names.Segment.{Segment}
use Rattle.draid_world.specs.World.{site_layout, state_of}
use Rattle.draid_steps.proofs.commits.staying_of.Given as goal

abbrev pub invariant-loop-segment : goal.invariant-loop-segment
invariant-loop-segment l = (s : Segment) →
    (has_segment l.staying.keys s || (has_segment l.segment-iterator s && stays (site_layout l.site) l.group (state_of l.world) s))
    ≡ (has_segment l.set.keys s && stays (site_layout l.site) l.group (state_of l.world) s)

use Rattle.std.proofs.Common.{◌≡◌, ◌&&◌, ◌||◌, Bool, is_some}
use Rattle.draid_machine.specs.Claims.{is_at}
use Rattle.draid_machine.specs.Names.{has_segment}
use Rattle.draid_machine.specs.declared.names.Segment.{Segment}
use Rattle.draid_world.specs.World.{core_of, kept_in, site_layout}
use Rattle.draid_arms.proofs.keeping.held_of.Given as goal

abbrev pub invariant-loop-segment : goal.invariant-loop-segment
invariant-loop-segment l = (s : Segment) →
    let test : Bool = is_at (site_layout l.site) (core_of l.tables) s || is_some (kept_in l.kept.entries s) in
    (has_segment l.left.keys s || (has_segment l.segment-iterator s && test)) ≡ (has_segment l.segments.keys s && test)

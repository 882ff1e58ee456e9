use Rattle.std.proofs.Common.{◌≡◌, ◌||◌, take}
use Rattle.draid_machine.specs.declared.names.Segment.{Segment}
use Rattle.draid_machine.specs.Names.{has_segment}
use Rattle.draid_world.proofs.sets.put_all.Given as goal

abbrev pub invariant-loop-segment : goal.invariant-loop-segment
invariant-loop-segment l = (s : Segment) → has_segment l.set.keys s ≡ (has_segment l.fn.set.keys s || has_segment (take l.segment-index l.segments) s)

use Rattle.std.proofs.Common.{◌≡◌, ◌&&◌, ◌||◌}
use Rattle.draid_machine.specs.declared.names.Segment.{Segment}
use Rattle.draid_machine.specs.Names.{has_segment, key_eq}
use Rattle.draid_scrubs.proofs.healing.of_block.Given as goal

abbrev pub invariant-loop-segment : goal.invariant-loop-segment
invariant-loop-segment l =
    (s : Segment) → (has_segment l.out.items s || (has_segment l.segment-iterator s && key_eq l.key s.key)) ≡ (has_segment l.present.keys s && key_eq l.key s.key)

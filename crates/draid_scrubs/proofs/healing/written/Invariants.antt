use Rattle.draid_machine.specs.declared.names.Segment.{Segment}
use Rattle.draid_machine.specs.After.{was_written}
use Rattle.draid_world.proofs.Picks.{ArePicked}
use Rattle.draid_scrubs.proofs.healing.written.Given as goal

abbrev pub invariant-loop-segment : goal.invariant-loop-segment
invariant-loop-segment l = ArePicked (λ (s : Segment). was_written l.patched s.column s.arm s.row) l.all l.segment-index l.out.items

use Rattle.draid_machine.specs.declared.names.Segment.{Segment}
use Rattle.draid_machine.specs.After.{has_landed}
use Rattle.draid_world.proofs.Picks.{ArePicked}
use Rattle.draid_scrubs.proofs.healing.landed.Given as goal

abbrev pub invariant-loop-segment : goal.invariant-loop-segment
invariant-loop-segment l = ArePicked (λ (s : Segment). has_landed l.patched s.column s.arm s.row) l.all l.segment-index l.out.items

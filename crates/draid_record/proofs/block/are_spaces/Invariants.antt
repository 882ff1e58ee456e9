use Rattle.std.proofs.Common.{◌≡◌, ◌≤◌, drop, length}
use Rattle.draid_record.specs.Record.{same_runs, spaces_from, spaces_of}
use Rattle.draid_record.proofs.block.are_spaces.Given as goal

abbrev pub invariant-loop-next : goal.invariant-loop-next
invariant-loop-next l = record {
  still : same_runs l.runs (spaces_of l.blocks) ≡ same_runs (drop l.at l.runs) (spaces_from l.first l.upto (drop l.next l.blocks));
  within : l.at ≤ length l.runs;
}

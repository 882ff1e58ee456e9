use Rattle.std.proofs.Common.{◌≤◌, ◌-◌, length}
use Rattle.draid_record.specs.Grammar.{many}
use Rattle.draid_record.specs.Reader.{state_of}
use Rattle.draid_record.specs.Record.{same_state, space_run, space_runs}
use Rattle.draid_record.proofs.Loop.{Still}
use Rattle.draid_record.proofs.block.space_runs.Given as goal

abbrev pub invariant-loop : goal.invariant-loop
invariant-loop l = record {
  still : Still (state_of l.fn.reader) (space_runs l.count) l.runs.items (state_of l.reader) (many (l.count - l.counter) space_run same_state 0);
  few : length l.runs.items ≤ l.counter;
}

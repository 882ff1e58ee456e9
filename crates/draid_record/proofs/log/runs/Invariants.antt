use Rattle.std.proofs.Common.{◌≤◌, ◌^◌, ◌+◌, ◌-◌}
use Rattle.draid_ranges.specs.Runs.{AreWithin}
use Rattle.draid_record.specs.Grammar.{many}
use Rattle.draid_record.specs.Reader.{state_of}
use Rattle.draid_record.specs.Record.{behind, run, runs}
use Rattle.draid_record.proofs.Loop.{Still}
use Rattle.draid_record.proofs.log.runs.Given as goal

abbrev pub invariant-loop : goal.invariant-loop
invariant-loop l = record {
  still : Still (state_of l.fn.reader) (runs l.count) l.runs.items (state_of l.reader) (many (l.count - l.counter) run behind l.low);
  apart : AreWithin 0 l.runs.items l.low;
  low : l.low ≤ 2 ^ 48 + 1;
}

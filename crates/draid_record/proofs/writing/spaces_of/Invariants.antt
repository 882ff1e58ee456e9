use Rattle.std.proofs.Common.{◌≡◌, ◌++◌, drop}
use Rattle.draid_record.specs.Record.{spaces_from, spaces_of}
use Rattle.draid_record.proofs.writing.spaces_of.Given as goal

abbrev pub invariant-loop-next : goal.invariant-loop-next
invariant-loop-next l = spaces_of l.blocks ≡ l.runs.items ++ spaces_from l.first l.upto (drop l.next l.blocks)

use Rattle.std.proofs.Common.{◌≡◌, ◌++◌}
use Rattle.draid_entries.specs.Listed.{staying}
use Rattle.draid_entries.proofs.listed.staying.Given as goal

abbrev pub invariant-loop-entry : goal.invariant-loop-entry
invariant-loop-entry l = l.blocks.items ++ staying l.group l.entry-iterator ≡ staying l.group l.firsts.entries

use Rattle.std.proofs.Common.{◌≡◌, ◌<◌, ℕ, true}
use Rattle.draid_machine.specs.After.{was_written}
use Rattle.draid_scrubs.proofs.wholes.rows_written.Given as goal

abbrev pub invariant-loop-row : goal.invariant-loop-row
invariant-loop-row l = (r : ℕ) → r < l.row → was_written l.patched l.column l.arm r ≡ true

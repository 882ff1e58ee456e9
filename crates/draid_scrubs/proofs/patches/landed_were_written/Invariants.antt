use Rattle.std.proofs.Common.{◌≡◌, ◌<◌, ℕ, true, get_or}
use Rattle.draid_machine.specs.After.{was_written}
use Rattle.draid_scrubs.proofs.patches.landed_were_written.Given as goal

abbrev pub invariant-loop-row : goal.invariant-loop-row
invariant-loop-row l = (i : ℕ) → i < l.row-index → was_written l.patched l.part.column l.part.arm (get_or l.rows i 0) ≡ true

use Rattle.std.proofs.Common.{◌≡◌, drop}
use Rattle.draid_machine.specs.After as after
use Rattle.draid_scrubs.proofs.patches.was_written.Given as goal

abbrev pub invariant-loop-part : goal.invariant-loop-part
invariant-loop-part l = after.was_written l.patched l.column l.arm l.row ≡ after.was_written (drop l.part-index l.patched) l.column l.arm l.row

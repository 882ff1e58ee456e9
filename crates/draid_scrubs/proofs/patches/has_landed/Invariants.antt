use Rattle.std.proofs.Common.{◌≡◌, drop}
use Rattle.draid_machine.specs.After as after
use Rattle.draid_scrubs.proofs.patches.has_landed.Given as goal

abbrev pub invariant-loop-part : goal.invariant-loop-part
invariant-loop-part l = after.has_landed l.patched l.column l.arm l.row ≡ after.has_landed (drop l.part-index l.patched) l.column l.arm l.row

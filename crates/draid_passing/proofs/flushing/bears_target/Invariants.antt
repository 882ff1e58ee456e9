use Rattle.std.proofs.Common.{◌≡◌, false, take}
use Rattle.draid_passing.specs.Flushing.{bears_target}
use Rattle.draid_passing.proofs.flushing.bears_target.Given as goal

abbrev pub invariant-loop-target : goal.invariant-loop-target
invariant-loop-target l = bears_target l.slots (take l.target-index l.targets) l.leaf ≡ false

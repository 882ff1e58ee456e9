use Rattle.std.proofs.Common.{◌≡◌, map, take}
use Rattle.draid_stable.specs.Opening.{run_of}
use Rattle.draid_stable.proofs.opening.runs_of.Given as goal

abbrev pub invariant-loop-block : goal.invariant-loop-block
invariant-loop-block l = l.runs.items ≡ map run_of (take l.block-index l.blocks)

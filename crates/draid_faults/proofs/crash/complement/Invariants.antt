use Rattle.std.proofs.Common.{◌≡◌, ◌-◌, ◌++◌, map, take, drop}
use Rattle.draid_faults.proofs.crash.complement.Given as goal

abbrev pub invariant-loop-i : goal.invariant-loop-i
invariant-loop-i l = l.bytes ≡ map (λ b. 255 - b) (take l.i l.fn.bytes) ++ drop l.i l.fn.bytes

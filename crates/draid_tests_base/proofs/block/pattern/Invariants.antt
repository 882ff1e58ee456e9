use Rattle.std.proofs.Common.{◌≡◌, length}
use Rattle.draid_tests_base.proofs.block.pattern.Given as goal

abbrev pub invariant-loop-i : goal.invariant-loop-i
invariant-loop-i l = length l.bytes.items ≡ l.len

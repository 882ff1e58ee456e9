use Rattle.std.proofs.Common.{◌≡◌, ℕ, false, take}
use Rattle.draid_ranges.specs.Numbers.{IsRoom}
use Rattle.draid_ranges.specs.Runs.{has_in}
use Rattle.draid_ranges.proofs.room.lowest_room.Given as goal

-- no room begins in the runs so far
abbrev pub invariant-loop-run : goal.invariant-loop-run
invariant-loop-run l = (q : ℕ) → IsRoom (has_in l.runs) l.len l.from l.to q → has_in (take l.run-index l.runs) q ≡ false

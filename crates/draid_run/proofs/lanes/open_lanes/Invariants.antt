use Rattle.std.proofs.Common.{◌≡◌, ◌≤◌, [], length, replicate}
use Rattle.std.specs.Prelude.{vec_capacity}
use Rattle.draid_clashes.specs.Lanes.{lanes_in}
use Rattle.draid_run.proofs.lanes.open_lanes.Given as goal

-- so many lanes are there, without lines
abbrev pub invariant-loop : goal.invariant-loop
invariant-loop l = record { many : length l.lanes.items ≡ l.counter; are : lanes_in l.lanes.items ≡ replicate l.counter []; room : l.count ≤ vec_capacity l.lanes }

use Rattle.std.proofs.Common.{◌≡◌, ◌+◌, ◌-◌, ◌≤◌, ◌++◌, length, replicate}
use Rattle.std.specs.Vec.{vec_capacity}
use Rattle.draid_area.proofs.cells.grow.Given as goal

abbrev pub invariant-loop : goal.invariant-loop
invariant-loop g l = (l.cells.items ≡ l.fn.cells.items ++ replicate l.counter l.value) × (length l.fn.cells.items + l.more ≤ vec_capacity l.cells) × (l.more ≡ l.len - length l.fn.cells.items)

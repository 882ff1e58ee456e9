use Rattle.std.proofs.Common.{◌≡◌, ◌≤◌, ◌+◌, ◌++◌}
use Rattle.std.specs.Prelude.{map, take}
use Rattle.draid_uber.specs.Points.{dropped_in}
use Rattle.draid_uber.proofs.checks.drop_all.Given as goal

-- so many were dropped
abbrev pub invariant-loop-block : goal.invariant-loop-block
invariant-loop-block l =
    (l.point.group ≡ l.initial.point.group) × (l.point.drops ≡ l.initial.point.drops ++ map (dropped_in l.group) (take l.block-index l.blocks))
    × (l.initial.point.spare ≤ l.point.spare + l.block-index)

use Rattle.std.proofs.Common.{◌≡◌, ◌++◌, drop}
use Rattle.draid_clashes.specs.Lanes.{lanes_in}
use Rattle.draid_clashes.specs.Named.{named_from}
use Rattle.draid_clashes.proofs.objects.named_objects.Given as goal

-- with those of the lanes that are left they are all
abbrev pub invariant-loop-lane : goal.invariant-loop-lane
invariant-loop-lane l = l.named.items ++ named_from l.lane (lanes_in (drop l.lane l.lanes)) ≡ named_from 0 (lanes_in l.lanes)

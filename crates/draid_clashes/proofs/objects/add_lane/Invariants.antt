use Rattle.std.proofs.Common.{◌≡◌, ◌++◌, drop}
use Rattle.draid_clashes.specs.Lanes.{commands_in}
use Rattle.draid_clashes.specs.Named.{named_in}
use Rattle.draid_clashes.proofs.objects.add_lane.Given as goal

-- with those of the lines that are left they are all
abbrev pub invariant-loop-line : goal.invariant-loop-line
invariant-loop-line l = l.named.items ++ named_in l.lane (commands_in (drop l.line-index l.lines)) ≡ l.fn.named.items ++ named_in l.lane (commands_in l.lines)

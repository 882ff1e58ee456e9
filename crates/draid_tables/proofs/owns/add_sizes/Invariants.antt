use Rattle.std.proofs.Common.{◌≡◌, ◌+◌, ◌-◌, ◌^◌, min, sum_by, take}
use Rattle.draid_tables.specs.Owns.{size_of_span}
use Rattle.draid_tables.proofs.owns.add_sizes.Given as goal

abbrev pub invariant-loop-span : goal.invariant-loop-span
invariant-loop-span l = l.count ≡ min (l.fn.count + sum_by size_of_span (take l.span-index l.numbers)) (2 ^ 64 - 1)

use Rattle.std.proofs.Common.{◌≡◌, ◌-◌, ◌^◌, min, sum_by, take}
use Rattle.draid_tables.specs.Owns.{size_of_list}
use Rattle.draid_tables.proofs.owns.room_of.Given as goal

abbrev pub invariant-loop-list : goal.invariant-loop-list
invariant-loop-list l = l.count ≡ min (sum_by size_of_list (take l.list-index l.numbers)) (2 ^ 64 - 1)

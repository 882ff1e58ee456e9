use Rattle.std.proofs.Common.{◌≡◌, ◌≤◌, ◌++◌, map, length}
use Rattle.std.specs.Prelude.{All}
use Rattle.draid_slots.specs.Table.{IsPaired, arms_in, arms_listed, logs_in, logs_listed}
use Rattle.draid_slots.proofs.lists.slots_of.Given as goal

abbrev pub invariant-loop-alloc : goal.invariant-loop-alloc
invariant-loop-alloc l = record {
  paired : All IsPaired l.slots.items;
  short : All (λ arms. length arms ≤ 3) (arms_listed l.listed.items);
  arms : map arms_in l.slots.items ++ arms_listed l.listed.items ≡ arms_listed l.fn.listed.items;
  logs : map logs_in l.slots.items ++ logs_listed l.listed.items ≡ logs_listed l.fn.listed.items;
}

abbrev pub decreases-loop-alloc : goal.decreases-loop-alloc
decreases-loop-alloc l = length l.listed.items

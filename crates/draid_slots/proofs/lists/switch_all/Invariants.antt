use Rattle.std.proofs.Common.{◌≡◌, ◌++◌, map, take, drop}
use Rattle.std.specs.Prelude.{All}
use Rattle.draid_slots.specs.Changes.{switched_arm}
use Rattle.draid_slots.specs.Table.{IsPaired, arms_in, logs_in}
use Rattle.draid_slots.proofs.lists.switch_all.Given as goal

abbrev pub invariant-loop-at : goal.invariant-loop-at
invariant-loop-at l = record {
  paired : All IsPaired l.slots.items;
  arms : map arms_in l.slots.items ≡ map (map (switched_arm l.leaf l.offline)) (take l.at (map arms_in l.fn.slots.items)) ++ drop l.at (map arms_in l.fn.slots.items);
  logs : map logs_in l.slots.items ≡ map logs_in l.fn.slots.items;
}

use Rattle.std.proofs.Common.{◌≡◌, map}
use Rattle.std.specs.Prelude.{All}
use Rattle.draid_slots.specs.Changes.{AreAllGrown, AreReserved}
use Rattle.draid_slots.specs.Table.{IsPaired, arms_in, logs_in}
use Rattle.draid_slots.proofs.lists.reserve_slots.Given as goal

abbrev pub invariant-loop-at : goal.invariant-loop-at
invariant-loop-at l = record {
  paired : All IsPaired l.slots.items;
  arms : map arms_in l.slots.items ≡ map arms_in l.fn.slots.items;
  logs : AreAllGrown (map logs_in l.fn.slots.items) (map logs_in l.slots.items);
  reserved : AreReserved (map logs_in l.slots.items) l.at l.changes;
}

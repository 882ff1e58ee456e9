use Rattle.std.proofs.Common.{◌<◌, ◌≤◌, ℕ}
use Rattle.draid_slots.specs.Table.{arms_of}
use Rattle.draid_shard.specs.Alike.{AreSameArms}
use Rattle.draid_found.proofs.alike.are_alike.Given as goal

-- the slots so far have the same arms
abbrev pub invariant-loop-slot : goal.invariant-loop-slot
invariant-loop-slot g l = record {
  same : (slot : ℕ) → slot < l.slot → AreSameArms (arms_of l.one.slots slot) (arms_of l.other.slots slot);
  bound : l.slot ≤ l.one.slots.geometry.spec.children;
}

use Rattle.std.proofs.Common.{◌≡◌, ◌++◌, map}
use Rattle.draid_slots.specs.Table.{IsPaired, arms_in, logs_in}
use Rattle.draid_slots.proofs.slot.slot_of.Given as goal

abbrev pub invariant-loop-listed : goal.invariant-loop-listed
invariant-loop-listed l = record {
  paired : IsPaired l.slot;
  arms : arms_in l.slot ++ map (λ p. p.0) l.listed.items ≡ map (λ p. p.0) l.fn.listed.items;
  logs : logs_in l.slot ++ map (λ p. p.1) l.listed.items ≡ map (λ p. p.1) l.fn.listed.items;
}

abbrev pub decreases-loop-listed : goal.decreases-loop-listed
decreases-loop-listed l = goal.left-loop-listed l

use Rattle.std.proofs.Common.{◌≡◌, ◌<◌, ◌∷◌, [], ℕ, false, map, length}
use Rattle.std.specs.Prelude.{All, slice_index_or}
use Rattle.draid_names.specs.declared.arm.ArmAt.{ArmAt}
use Rattle.draid_ranges.specs.Numbers.{has}
use Rattle.draid_slots.specs.Changes.{new_arm}
use Rattle.draid_slots.specs.Table.{IsPaired, arms_in, log_in, logs_in}
use Rattle.draid_slots.proofs.lists.new_slots.Given as goal

abbrev pub invariant-loop-number : goal.invariant-loop-number
invariant-loop-number l = record {
  paired : All IsPaired l.slots.items;
  count : length l.slots.items ≡ l.number;
  arms : (slot : ℕ) → slot < l.number → slice_index_or (map arms_in l.slots.items) slot [] ≡ new_arm slot ∷ [];
  logs : (at : ArmAt) (group : ℕ) → has (log_in (map logs_in l.slots.items) at) group ≡ false;
}

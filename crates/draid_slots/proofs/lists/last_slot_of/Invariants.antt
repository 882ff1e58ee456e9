use Rattle.std.proofs.Common.{◌≡◌, ℕ, drop}
use Rattle.draid_slots.specs.Table.{was_spare_of}
use Rattle.draid_slots.proofs.lists.last_slot_of.Given as goal

abbrev pub invariant-loop-gone : goal.invariant-loop-gone
invariant-loop-gone l = (slot : ℕ) → was_spare_of (drop l.gone-index l.detached) l.spare slot ≡ was_spare_of l.detached l.spare slot

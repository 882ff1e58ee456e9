-- The metaslabs of a pool have the same arms: what holds of the arms of one holds of those of each.
use Rattle.std.proofs.Common.{◌≡◌, ◌<◌, ◌∙◌, ℕ, List, [], ◌∷◌, None, arith, refl, sym, ap, length, map}
use Rattle.std.specs.Prelude.{remove, ◌||◌}
use Rattle.draid_names.specs.declared.arm.Arm.{Arm}
use Rattle.draid_names.specs.declared.arm.ArmAt.{ArmAt}
use Rattle.draid_slots.specs.Faults.{HasLeafBeside, MayDetach}
use Rattle.draid_slots.specs.Table.{IsThere, SlotTable, arms_of, has_leaf, is_leaf}
use Rattle.draid_shard.specs.Alike.{HaveSameArms}
use Rattle.draid_shard.specs.declared.shard.Shard.{Shard}
use Rattle.draid_disks.specs.Checks.{AreAlike, Each, HasWholeOver, NoPass, beside}
use Rattle.draid_disks.specs.Disks.{plain, plain_arms}
use Rattle.draid_disks.proofs.Alike.{plains_same}
use Rattle.draid_disks.proofs.Plain.{map_remove}

leaf_plain : (xs : List Arm) → has_leaf (map plain xs) ≡ has_leaf xs
leaf_plain [] = refl
leaf_plain (x ∷ xs) = ap (λ b. is_leaf x || b) (leaf_plain xs)

module _ (slots other : SlotTable) (at : ArmAt) (low : at.slot < slots.geometry.spec.children) (alike : HaveSameArms slots other) where
  same : plain_arms slots at.slot ≡ plain_arms other at.slot
  same = plains_same (arms_of slots at.slot) (arms_of other at.slot) (alike.slots at.slot low)

  there_too : (arm : ℕ) → IsThere slots (beside at arm) → IsThere other (beside at arm)
  there_too arm there = (let count = (alike.slots at.slot low).many in omega (arith, there, count))

  leaf_too : HasLeafBeside slots at → HasLeafBeside other at
  leaf_too leaf =
      sym (leaf_plain (remove (arms_of other at.slot) at.arm))
      ∙ ap has_leaf (map_remove plain (arms_of other at.slot) at.arm ∙ ap (λ xs. remove xs at.arm) (sym same) ∙ sym (map_remove plain (arms_of slots at.slot) at.arm))
      ∙ leaf_plain (remove (arms_of slots at.slot) at.arm) ∙ leaf

pub each_there : {R A : Type 0} (slots : SlotTable) (shards : List (Shard R A)) (at : ArmAt) (arm : ℕ) → at.slot < slots.geometry.spec.children → AreAlike slots shards → IsThere slots (beside at arm)
    → Each (λ (shard : Shard R A). IsThere shard.slots (beside at arm)) shards
each_there slots shards at arm low alike there m shard found = there_too slots shard.slots at low (alike m shard found) arm there

pub each_goes : {R A : Type 0} (slots : SlotTable) (shards : List (Shard R A)) (at : ArmAt) → at.slot < slots.geometry.spec.children → AreAlike slots shards → IsThere slots at → HasLeafBeside slots at → NoPass shards
    → HasWholeOver shards at (length (arms_of slots at.slot)) → Each (λ (shard : Shard R A). (shard.pass ≡ None) × MayDetach shard.slots at) shards
each_goes slots shards at low alike there leaf idle whole m shard found = (
  idle m shard found,
  record {
    there = there_too slots shard.slots at low (alike m shard found) at.arm there;
    leaf_beside = leaf_too slots shard.slots at low (alike m shard found) leaf;
    missed_none = (whole.0, (whole.1, there_too slots shard.slots at low (alike m shard found) whole.0 whole.2), whole.3 m shard found);
  },
)

use Rattle.std.proofs.Common.{◌<◌, ◌∙◌, List, ap, subst, sym, length}
use Rattle.std.specs.Prelude.{slice_index_or}
use Rattle.draid_names.specs.declared.arm.Arm.{Arm}
use Rattle.draid_slots.specs.Changes.{new_arm}
use Rattle.draid_slots.specs.Table.{is_leaf_kind}
use Rattle.draid_changes.proofs.Shown.{has_arm, has_arm_there}
use Rattle.draid_changes.proofs.dues.slot_state.Goals as goal

pub bounds-arms-0 : goal.bounds-arms-0
bounds-arms-0 g c = subst (λ (arms : List Arm). 0 < length arms) (sym c.arms-arms.ensures.arms) (has_arm c.args.slots.now c.args.slot c.requires.sound c.requires.slot)

pub missed_over-requires-clause-there : goal.missed_over-requires-clause-there
missed_over-requires-clause-there g c = has_arm_there c.args.slots.now c.args.shards.now c.args.slot c.requires.sound c.requires.slot c.requires.alike

pub returns : goal.returns
returns g c = λ i. record {
  slot = c.args.slot;
  arms = length (c.arms-arms.ensures.arms i);
  leaf = (c.is_leaf.ensures ∙ ap (λ (arms : List Arm). is_leaf_kind (slice_index_or arms 0 (new_arm 0)).kind) c.arms-arms.ensures.arms) i;
  offline = (slice_index_or (c.arms-arms.ensures.arms i) 0 (new_arm 0)).offline;
  logged = c.missed_over.ensures.sum i;
}

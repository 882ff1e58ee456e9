-- Room in memory is made in the logs, and events are asked for.
use Rattle.std.proofs.Common.{◌≡◌, ◌⊎◌, ◌∙◌, List, [], Some, None, arith, refl, sym, ap, subst, inl, inr, map, slice_get}
use Rattle.std.specs.Prelude.{Contains, slice_index_or}
use Rattle.draid_names.specs.declared.arm.Arm.{Arm}
use Rattle.draid_names.specs.declared.arm.ArmAt.{ArmAt}
use Rattle.draid_names.specs.declared.pass_kind.PassKind.{PassKind}
use Rattle.draid_names.specs.declared.pass_kind.PassKind.TheVariants.{Rebuild}
use Rattle.draid_plans.specs.Targets.{targets_of}
use Rattle.draid_passing.specs.Passing.{LacksTarget}
use Rattle.draid_rack.specs.declared.Rack.{Ghosts}
use Rattle.draid_machine.specs.declared.names.ArmName.{ArmName}
use Rattle.draid_machine.specs.State as machine
use Rattle.draid_entries.specs.declared.history.History.{History}
use Rattle.draid_entries.specs.History.{KeepsOwed}
use Rattle.draid_slots.specs.declared.slot.Detached.{Detached}
use Rattle.draid_slots.specs.Changes.{IsRoomier, Keeps}
use Rattle.draid_slots.specs.Table.{SlotTable, arm_at}
use Rattle.draid_slots.specs.States.{HasArm, HasSlots, WasArm, arm_in, name_of}
use Rattle.draid_shard.specs.Changes.{DoesNothing}
use Rattle.draid_shard.specs.Fits.{Valid, birth_groups, changes_for_end, oldest_open}
use Rattle.draid_shard.specs.States.{IsIn}
use Rattle.draid_shard.specs.declared.shard.Shard.{Shard}
use Rattle.draid_shard.proofs.Changed.{arms_kept, same_entries}
use Rattle.draid_shard.proofs.Once.{once_kept}
use Rattle.draid_shard.proofs.SamePass.{pass_held, pass_same}
use Rattle.draid_shard.proofs.Staging.{leaf_was, logs_kept}

-- slots that are as they were
pub kept_all : (slots : SlotTable) → Keeps slots slots
kept_all slots = record { same = record { geometry_is = refl; perms_are = refl; metaslab_is = refl }; arms_stay = refl; logs_stay = λ at group. refl; detached_stay = refl }

pub roomy_all : (slots : SlotTable) → IsRoomier slots slots
roomy_all slots = record { logs = λ at. omega arith; count = omega arith; next = λ k. omega arith; places = omega arith }

-- the targets of a rebuild
pub lacks_kept : (old new : SlotTable) (kind : PassKind) → Keeps old new → LacksTarget new kind → LacksTarget old kind
lacks_kept old new kind kept lacks = (lacks.0, (λ i. targets_of (record old { geometry = sym kept.same.geometry_is i; arms = sym kept.arms_stay i }) [] Rebuild) ∙ lacks.1)

-- a state that has them
module _ (old new : SlotTable) (q : machine.Core) (kept : Keeps old new) (has : HasSlots old q) where
  was_at : (at : ArmAt) (arm : Arm) → arm_at new at ≡ Some arm → arm_at old at ≡ Some arm
  was_at at arm there = ap (λ arms. slice_get (slice_index_or arms at.slot []) at.arm) (sym kept.arms_stay) ∙ there

  is_at : (at : ArmAt) (arm : Arm) → arm_at old at ≡ Some arm → arm_at new at ≡ Some arm
  is_at at arm there = ap (λ arms. slice_get (slice_index_or arms at.slot []) at.arm) kept.arms_stay ∙ there

  same_arm : (at : ArmAt) (arm : Arm) → Some (arm_in old at arm) ≡ Some (arm_in new at arm)
  same_arm at arm = λ i. Some (record { offline = arm.offline; fresh = arm.fresh; log = λ g. sym (kept.logs_stay at g) i; gone = None })

  still : (n : ArmName) → HasArm old n ⊎ WasArm old n → HasArm new n ⊎ WasArm new n
  still n (inl h) = inl (record { at = h.at; arm = h.arm; there = is_at h.at h.arm h.there; name_is = h.name_is })
  still n (inr g) = inr (record { gone = g.gone; among = subst (λ (list : List Detached). Contains list g.gone) (sym kept.detached_stay) g.among; name_is = g.name_is })

  pub slots_kept : HasSlots new q
  slots_kept = record {
    order = λ slot. has.order slot ∙ ap (λ arms. map name_of (slice_index_or arms slot [])) (sym kept.arms_stay);
    arms = λ at arm there. has.arms at arm (was_at at arm there) ∙ same_arm at arm;
    detached = λ gone among. has.detached gone (subst (λ (list : List Detached). Contains list gone) kept.detached_stay among);
    only = λ n some. still n (has.only n some);
  }

module _ {R A : Type 0} (old : Shard R A) (slots : SlotTable) (history : History) (kept : Keeps old.slots slots) (owed : KeepsOwed old.history history) where
  pub roomy_valid : (ghosts : Ghosts R) → Valid ghosts old → IsRoomier old.slots slots → Valid ghosts (record old { slots = slots; history = history })
  roomy_valid ghosts v roomier = record {
    part = v.part;
    version = v.version;
    asked = v.asked;
    tables = v.tables;
    disabled = v.disabled;
    few = v.few;
    here = v.here;
    slots = record {
      geometry_is = kept.same.geometry_is ∙ v.slots.geometry_is;
      perms_are = kept.same.perms_are ∙ v.slots.perms_are;
      metaslab_is = kept.same.metaslab_is ∙ v.slots.metaslab_is;
    };
    once = once_kept old.slots slots kept.arms_stay kept.detached_stay v.once;
    pass = pass_held old.slots slots old.last_pass old.pass kept.arms_stay v.pass;
    kept = v.kept;
    serial = (let low = v.serial in let stored = owed.stored in omega (arith, low, stored));
    flushed = v.flushed;
    logs = logs_kept old.slots slots (oldest_open old.open_group old.closing) (birth_groups old.closing) (changes_for_end old.pass old.closing) kept.arms_stay kept.logs_stay roomier.logs v.logs;
    leaves = record { bytes = v.leaves.bytes; leaves = λ leaf is. v.leaves.leaves leaf (leaf_was old.slots slots leaf kept.arms_stay kept.detached_stay is) };
    groups = v.groups;
    low = v.low;
    tickets = v.tickets;
    settled = v.settled;
    owed = (let was = v.owed in let o = owed.owed in let r = owed.reserved in omega (arith, was, o, r));
  }

  roomy_in : (w : machine.State) → IsIn old w → IsIn (record old { slots = slots; history = history }) w
  roomy_in w at = record {
    held = at.held;
    slots = slots_kept old.slots slots w.core kept at.slots;
    pass = at.pass ∙ pass_same old.slots slots old.pass kept.arms_stay;
    last = at.last;
    open_group_is = at.open_group_is;
    closing = at.closing;
    sealed = at.sealed;
    committed = at.committed;
    version = at.version;
    asked = at.asked;
    serial = at.serial;
    loan = at.loan;
  }

  pub roomy_nothing : DoesNothing old (record old { slots = slots; history = history })
  roomy_nothing = record {
    none = record { part = refl; stored = owed.events; stays = roomy_in };
    keeps = record { entries = same_entries old.entries; groups = record { open_group_is = refl; closing = refl; sealed = refl; committed = refl } };
    slots = arms_kept old.slots slots kept;
  }

-- A group is closed: what the shard is then, and for which states it stands.
use Rattle.std.proofs.Common.{◌≡◌, ◌⊎◌, ◌+◌, ◌<◌, ◌≤◌, ◌∙◌, ℕ, false, List, [], Some, None, arith, refl, sym, ap, subst, inl, inr, map, slice_get}
use Rattle.std.specs.Prelude.{Contains, slice_index_or}
use Rattle.std.proofs.lemmas.Bool.{true≢false}
use Rattle.draid_names.specs.declared.arm.Arm.{Arm}
use Rattle.draid_names.specs.declared.arm.ArmAt.{ArmAt}
use Rattle.draid_names.specs.declared.numbers.TheConstants.{LAST_NUMBER}
use Rattle.draid_rack.specs.declared.Rack.{Ghosts}
use Rattle.draid_machine.specs.declared.event.Event.TheVariants.{Close}
use Rattle.draid_machine.specs.declared.names.ArmName.{ArmName}
use Rattle.draid_machine.specs.After.{close_state}
use Rattle.draid_machine.specs.State as machine
use Rattle.draid_entries.specs.declared.history.History.{History}
use Rattle.draid_entries.specs.History.{KeepsOwed, owed_of, reserved_of, stored_of}
use Rattle.draid_slots.specs.declared.slot.Detached.{Detached}
use Rattle.draid_slots.specs.Changes.{HasRoom, IsRoomier, Keeps}
use Rattle.draid_slots.specs.Table.{SlotTable, arm_at}
use Rattle.draid_slots.specs.States.{HasArm, HasSlots, WasArm, arm_in, name_of}
use Rattle.draid_shard.specs.Changes.{DoesNothing}
use Rattle.draid_shard.proofs.Changed.{same_arms, same_entries}
use Rattle.draid_shard.specs.Fits.{AreGroups, HasLeaves, Tables, TicketsAreNew, Valid, birth_groups, changes_for_end, oldest_open, owed_for_group}
use Rattle.draid_shard.specs.States.{IsIn, Leads, layout_by}
use Rattle.draid_shard.specs.declared.shard.Shard.{Shard}
use Rattle.draid_shard.proofs.Once.{once_kept}
use Rattle.draid_shard.proofs.SamePass.{pass_held, pass_same}
use Rattle.draid_shard.proofs.Staging.{leaf_was, logs_kept}
use Rattle.draid_pool.proofs.Rooms.{changes_most, rooms_enough, still_of}

-- ---- slots in which room was made
module _ (old new : SlotTable) (q : machine.Core) (kept : Keeps old new) (has : HasSlots old q) where
  was_at : (at : ArmAt) (arm : Arm) → arm_at new at ≡ Some arm → arm_at old at ≡ Some arm
  was_at at arm there = ap (λ arms. slice_get (slice_index_or arms at.slot []) at.arm) (sym kept.arms_stay) ∙ there

  is_at : (at : ArmAt) (arm : Arm) → arm_at old at ≡ Some arm → arm_at new at ≡ Some arm
  is_at at arm there = ap (λ arms. slice_get (slice_index_or arms at.slot []) at.arm) kept.arms_stay ∙ there

  same_arm : (at : ArmAt) (arm : Arm) → Some (arm_in old at arm) ≡ Some (arm_in new at arm)
  same_arm at arm = λ i. Some (record { offline = arm.offline; fresh = arm.fresh; log = λ g. sym (kept.logs_stay at g) i; gone = None })

  still : (n : ArmName) → HasArm old n ⊎ WasArm old n → HasArm new n ⊎ WasArm new n
  still n (inl h) = inl (record { at = h.at; arm = h.arm; there = is_at h.at h.arm h.there; name_is = h.name_is })
  still n (inr g) = inr (record { gone = g.gone; among = subst (λ (list : List Detached). Contains list g.gone) (sym kept.detached_stay) g.among; name_is = g.name_is })

  pub slots_kept : HasSlots new q
  slots_kept = record {
    order = λ slot. has.order slot ∙ ap (λ arms. map name_of (slice_index_or arms slot [])) (sym kept.arms_stay);
    arms = λ at arm there. has.arms at arm (was_at at arm there) ∙ same_arm at arm;
    detached = λ gone among. has.detached gone (subst (λ (list : List Detached). Contains list gone) kept.detached_stay among);
    only = λ n some. still n (has.only n some);
  }

module _ {R A : Type 0} (ghosts : Ghosts R) (old : Shard R A) (slots : SlotTable) (kept : Keeps old.slots slots) where
  leaves_kept : Valid ghosts old → HasLeaves (ghosts.shape old.rack) old.geometry slots
  leaves_kept v = record { bytes = v.leaves.bytes; leaves = λ leaf is. v.leaves.leaves leaf (leaf_was old.slots slots leaf kept.arms_stay kept.detached_stay is) }

  -- ---- it was refused when room was made, or while it was
  pub kept_valid : (history : History) → Valid ghosts old → IsRoomier old.slots slots → KeepsOwed old.history history → Valid ghosts (record old { slots = slots; history = history })
  kept_valid history v roomier owed = record {
    part = v.part;
    version = v.version;
    asked = v.asked;
    tables = v.tables;
    disabled = v.disabled;
    few = v.few;
    here = v.here;
    slots = still_of old.slots slots old.geometry old.perms old.number kept v.slots;
    once = once_kept old.slots slots kept.arms_stay kept.detached_stay v.once;
    pass = pass_held old.slots slots old.last_pass old.pass kept.arms_stay v.pass;
    kept = v.kept;
    serial = (let low = v.serial in let stored = owed.stored in omega (arith, low, stored));
    flushed = v.flushed;
    logs = logs_kept old.slots slots (oldest_open old.open_group old.closing) (birth_groups old.closing) (changes_for_end old.pass old.closing) kept.arms_stay kept.logs_stay roomier.logs v.logs;
    leaves = leaves_kept v;
    groups = v.groups;
    low = v.low;
    tickets = v.tickets;
    settled = v.settled;
    owed = (let was = v.owed in let o = owed.owed in let r = owed.reserved in omega (arith, was, o, r));
  }

  pub kept_in : (history : History) (w : machine.State) → IsIn old w → IsIn (record old { slots = slots; history = history }) w
  kept_in history w at = record {
    held = at.held;
    slots = slots_kept old.slots slots w.core kept at.slots;
    pass = at.pass ∙ pass_same old.slots slots old.pass kept.arms_stay;
    last = at.last;
    open_group_is = at.open_group_is;
    closing = at.closing;
    sealed = at.sealed;
    committed = at.committed;
    version = at.version;
    asked = at.asked;
    serial = at.serial;
    loan = at.loan;
  }

  -- ---- it was closed
  module _ (group : ℕ) (open_is : group ≡ old.open_group) (idle : old.closing ≡ None) (below : group < LAST_NUMBER) (history : History) where
    abbrev closed : Shard R A
    closed = record old { slots = slots; history = history; closing = Some group; open_group = group + 1 }

    groups_before : Valid ghosts old → (old.open_group ≡ old.committed + 1) × (old.sealed ≡ false)
    groups_before v = subst (λ o. AreGroups old.open_group o old.committed old.sealed) idle v.groups

    tables_next : Valid ghosts old → Tables old.geometry (group + 1) old.space old.entries
    tables_next v =
        let t = v.tables in record {
          height = t.height;
          total = t.total;
          count = t.count;
          inside = t.inside;
          placed = λ k e there. (let p = t.placed k e there in let born = p.is_block.born in record {
            run = p.run;
            held = p.held;
            is_block = record {
              object_small = p.is_block.object_small;
              some_seq = p.is_block.some_seq;
              most_seq = p.is_block.most_seq;
              digest_len = p.is_block.digest_len;
              some = p.is_block.some;
              short = p.is_block.short;
              stripes = p.is_block.stripes;
              born = omega (arith, born, open_is);
              low = p.is_block.low;
            };
          });
          apart = t.apart;
          covered = t.covered;
        }

    pub closed_valid : Valid ghosts old → HasRoom slots 6 0 → owed_of history + 1 ≡ owed_of old.history + 3 → reserved_of history ≡ reserved_of old.history
        → stored_of old.history ≤ stored_of history → Valid ghosts closed
    closed_valid v room owed reserved stored = record {
      part = v.part;
      version = v.version;
      asked = v.asked;
      tables = tables_next v;
      disabled = v.disabled;
      few = v.few;
      here = v.here;
      slots = still_of old.slots slots old.geometry old.perms old.number kept v.slots;
      once = once_kept old.slots slots kept.arms_stay kept.detached_stay v.once;
      pass = pass_held old.slots slots old.last_pass old.pass kept.arms_stay v.pass;
      kept = v.kept;
      serial = (let low = v.serial in omega (arith, low, stored));
      flushed = v.flushed;
      logs = rooms_enough slots group 3 (changes_for_end old.pass (Some group)) 6 0 (let most = changes_most old.pass (Some group) in omega (arith, most)) room;
      leaves = leaves_kept v;
      groups = (refl, open_is ∙ (groups_before v).0);
      low = omega (arith, below);
      tickets = subst (TicketsAreNew old.entries) (sym open_is) (subst (λ o. TicketsAreNew old.entries (oldest_open old.open_group o)) idle v.tickets);
      settled = λ sealed. absurd (true≢false (sym sealed ∙ (groups_before v).1));
      owed =
          (let was = v.owed in
          let none : owed_for_group old.closing old.sealed ≡ 0 = ap (λ o. owed_for_group o old.sealed) idle in
          let two : owed_for_group (Some group) old.sealed ≡ 2 = ap (λ b. owed_for_group (Some group) b) (groups_before v).1 in
          omega (arith, was, none, two, owed, reserved));
    }

    pub closes : (w : machine.State) → IsIn old w → Leads (layout_by old) w (Close group) closed
    closes w at = record {
      state = close_state w group;
      step = record { open_group = at.open_group_is ∙ sym open_is; below = below; idle = at.closing ∙ idle; made = refl };
      is_in = record {
        held = at.held;
        slots = slots_kept old.slots slots w.core kept at.slots;
        pass = at.pass ∙ pass_same old.slots slots old.pass kept.arms_stay;
        last = at.last;
        open_group_is = refl;
        closing = refl;
        sealed = at.sealed;
        committed = at.committed;
        version = at.version;
        asked = at.asked;
        serial = at.serial;
        loan = at.loan;
      };
    }

-- ---- room was asked for, and nothing else was done
module _ {R A : Type 0} (ghosts : Ghosts R) (old : Shard R A) (history : History) (same : KeepsOwed old.history history) where
  pub asked_valid : Valid ghosts old → Valid ghosts (record old { history = history })
  asked_valid v = record {
    part = v.part;
    version = v.version;
    asked = v.asked;
    tables = v.tables;
    disabled = v.disabled;
    few = v.few;
    here = v.here;
    slots = v.slots;
    once = v.once;
    pass = v.pass;
    kept = v.kept;
    serial = (let low = v.serial in let stored = same.stored in omega (arith, low, stored));
    flushed = v.flushed;
    logs = v.logs;
    leaves = record { bytes = v.leaves.bytes; leaves = v.leaves.leaves };
    groups = v.groups;
    low = v.low;
    tickets = v.tickets;
    settled = v.settled;
    owed = (let was = v.owed in let o = same.owed in let r = same.reserved in omega (arith, was, o, r));
  }

  pub asked_in : (w : machine.State) → IsIn old w → IsIn (record old { history = history }) w
  asked_in w at = record {
    held = at.held;
    slots = at.slots;
    pass = at.pass;
    last = at.last;
    open_group_is = at.open_group_is;
    closing = at.closing;
    sealed = at.sealed;
    committed = at.committed;
    version = at.version;
    asked = at.asked;
    serial = at.serial;
    loan = at.loan;
  }

  pub asked_nothing : DoesNothing old (record old { history = history })
  asked_nothing = record {
    none = record { part = refl; stored = same.events; stays = asked_in };
    keeps = record { entries = same_entries old.entries; groups = record { open_group_is = refl; closing = refl; sealed = refl; committed = refl } };
    slots = same_arms old.slots;
  }

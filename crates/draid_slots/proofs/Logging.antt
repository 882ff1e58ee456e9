-- A call that changes the log of one arm, which the table has.
use Rattle.std.proofs.Common.{◌≡◌, ◌+◌, ◌<◌, ◌≤◌, ℕ, Bool, List, map, length, get_or, set, arith, refl, ap, sym, ◌∙◌, subst}
use Rattle.std.specs.Vec.{with_item}
use Rattle.std.proofs.lemmas.List.{length-map, length-set}
use Rattle.draid_names.specs.declared.arm.ArmAt.{ArmAt}
use Rattle.draid_perm.specs.declared.perms.Perms.{Perms}
use Rattle.draid_ranges.specs.Numbers.{Numbers, has}
use Rattle.draid_spec.specs.declared.layout.Geometry.{Geometry}
use Rattle.draid_slots.specs.declared.slot.Detached.{Detached}
use Rattle.draid_slots.specs.declared.slot.Slot.{Slot}
use Rattle.draid_slots.specs.Changes.{ChangesLog, SetsLog}
use Rattle.draid_slots.specs.Table.{AreKept, IsThere, SlotTable, arms_in, log_at, logs_in, room_at, table_of}
use Rattle.draid_slots.proofs.Tables.{IsPlace, changes_log, its_place, kept_log, log_found, rooms_kept, sets_log, slot_there}

-- the slot with another log of an arm
abbrev pub with_log : Slot → ℕ → Numbers → Slot
with_log slot arm log = record { arms = slot.arms; logs = with_item slot.logs arm log }

module _ (geometry : Geometry) (perms : Perms) (metaslab : ℕ) (slots : List Slot) (detached : List Detached) (next : List ℕ) (places : ℕ) (t : SlotTable)
    (is : table_of geometry perms metaslab slots detached next places ≡ t) (at : ArmAt) (there : IsThere t at) where
  pub slot_within : at.slot < length slots
  slot_within =
      let here : IsThere (table_of geometry perms metaslab slots detached next places) at = subst (λ x. IsThere x at) (sym is) there in
      let below = slot_there (map arms_in slots) at.slot at.arm here in
      omega (arith, below, length-map slots arms_in)

  module _ (kept : AreKept geometry perms metaslab slots detached) (old : Slot) (was : old ≡ get_or slots at.slot old) where
    pub place : IsPlace slots at old
    place = its_place slots at old kept.paired (subst (λ x. IsThere x at) (sym is) there) was

    pub log_kept : (log : Numbers) → AreKept geometry perms metaslab (set slots at.slot (with_log old at.arm log)) detached
    log_kept log =
        let paired = place.paired in
        kept_log geometry perms metaslab slots detached at.slot old (with_log old at.arm log) kept was
        (record { same = length-set old.logs.items at.arm log ∙ paired.same; arm_room = paired.arm_room; log_room = paired.log_room }) refl

    pub log_was : (before : Numbers) → before ≡ get_or (logs_in old) at.arm before → log_at t at ≡ before
    log_was before found = subst (λ x. log_at x at ≡ before) is (log_found slots at old before place found)

    pub log_set : (log : Numbers) → SetsLog t (table_of geometry perms metaslab (set slots at.slot (with_log old at.arm log)) detached next places) at log
    log_set log =
        subst (λ x. SetsLog x (table_of geometry perms metaslab (set slots at.slot (with_log old at.arm log)) detached next places) at log) is
        (sets_log geometry perms metaslab slots detached next places at old (with_log old at.arm log) log place was refl refl)

    -- it has just the groups of a test, and takes at most the room of one change
    pub log_changed : (before log : Numbers) (test : ℕ → Bool) → before ≡ get_or (logs_in old) at.arm before → ((x : ℕ) → has log x ≡ test x) → before.room ≤ log.room + 1
        → ChangesLog t (table_of geometry perms metaslab (set slots at.slot (with_log old at.arm log)) detached next places) at test
    log_changed before log test found members room =
        let had = ap (λ (l : Numbers). l.room) (log_was before found) in
        changes_log t _ at log test (log_set log) members (omega (arith, had, room))

    -- where it has as much room as before, no log has less
    pub log_roomy : (before log : Numbers) → before ≡ get_or (logs_in old) at.arm before → before.room ≤ log.room
        → (other : ArmAt) → room_at t other ≤ room_at (table_of geometry perms metaslab (set slots at.slot (with_log old at.arm log)) detached next places) other
    log_roomy before log found room =
        let had = ap (λ (l : Numbers). l.room) (log_was before found) in
        rooms_kept t _ at log (log_set log) (omega (arith, had, room))

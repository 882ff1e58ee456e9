-- A group is committed: what the shard is then, for which states it stands, and which leaves went.
use Rattle.std.proofs.Common.{◌≡◌, ◌≢◌, ◌==◌, ◌⊎◌, ◌&&◌, ◌+◌, ◌≤◌, ◌∙◌, ℕ, true, false, nat_le, nat_lt, not, Bool, IfSome, option_map, List, [], Option, Some, None, arith, refl, sym, ap, subst, inl, inr, is_some, map, slice_get, if◌then◌else◌}
use Rattle.std.specs.Prelude.{Contains, slice_index_or}
use Rattle.std.proofs.lemmas.Bool.{cases_lt, true≢false}
use Rattle.std.proofs.lemmas.Bool.Decides.{nat_tests}
use Rattle.draid_names.specs.Numbers.{most_held}
use Rattle.draid_names.specs.declared.arm.Arm.{Arm}
use Rattle.draid_names.specs.declared.arm.ArmAt.{ArmAt}
use Rattle.draid_names.specs.declared.arm.ArmKind.{ArmKind}
use Rattle.draid_names.specs.declared.arm.ArmKind.TheVariants as kind
use Rattle.draid_rack.specs.Moments.{LeavesTold}
use Rattle.draid_rack.specs.Rack.{Told, OnBothTold}
use Rattle.draid_rack.specs.declared.Rack.{Ghosts}
use Rattle.draid_metaslab.specs.Spaces.{Stripes}
use Rattle.draid_machine.specs.declared.event.Event.TheVariants.{Commit}
use Rattle.draid_machine.specs.declared.names.ArmName.{ArmName}
use Rattle.draid_machine.specs.declared.names.ArmName.TheVariants.{Leaf}
use Rattle.draid_machine.specs.After.{commit_state, is_freed_block, is_gone_arm, is_gone_by, keep_if, keep_loan}
use Rattle.draid_machine.specs.Created.{IsReached}
use Rattle.draid_machine.specs.State as machine
use Rattle.draid_machine.proofs.Fitted.{every_fit}
use Rattle.draid_machine.proofs.Small.{bool_cases, kept_some, none_some, some_injective, some_same, true_both}
use Rattle.draid_segments.specs.Acts.{DropsBut, StaysAfter}
use Rattle.draid_segments.specs.Segments.{Pieces}
use Rattle.draid_entries.specs.declared.entry.Entry.{Entry}
use Rattle.draid_entries.specs.declared.entries.Entries.{Entries}
use Rattle.draid_entries.specs.declared.history.History.{History}
use Rattle.draid_entries.specs.Entries.{entry_at}
use Rattle.draid_entries.specs.History.{owed_of, reserved_of, stored_of}
use Rattle.draid_slots.specs.declared.slot.Detached.{Detached}
use Rattle.draid_slots.specs.Changes.{Commits}
use Rattle.draid_slots.specs.Table.{SlotTable, arm_at, is_leaf_kind, is_logged, room_at}
use Rattle.draid_slots.specs.States.{HasArm, HasSlots, IsGone, WasArm, arm_in, name_of}
use Rattle.draid_machine.specs.Names.{is_freed_by, named}
use Rattle.draid_machine.proofs.Rows.{reached_sound}
use Rattle.draid_entries.specs.Maps.{held_at}
use Rattle.draid_shard.specs.Looks.{IsOver}
use Rattle.draid_shard.proofs.Over.{held_over}
use Rattle.draid_shard.specs.Calls.{ActsOn}
use Rattle.draid_shard.specs.Fits.{AreGroups, HasLeaves, IsLeaf, LogsHaveRoom, Tables, Valid, birth_groups, changes_for_end, is_rebuild, oldest_open, owed_for_group}
use Rattle.draid_shard.specs.Loans.{IsKept, loan_in, owed_for_loan}
use Rattle.draid_shard.specs.declared.loan.KeptLoan.{KeptLoan}
use Rattle.draid_shard.specs.States.{IsIn, Leads, layout_by, part_of}
use Rattle.draid_shard.specs.declared.shard.Shard.{Shard}
use Rattle.draid_shard.proofs.Among.{any_among, any_kept, kept_among, was_among}
use Rattle.draid_shard.proofs.Homes.{lays}
use Rattle.draid_shard.proofs.Once.{once_fewer}
use Rattle.draid_shard.proofs.SamePass.{pass_held, pass_same}
use Rattle.draid_shard.proofs.Staging.{logs_kept, logs_later}
use Rattle.draid_pool.specs.Committing.{DropsFreed, DropsListed, KeepsLoan, IsAmong, StaysLeaf, is_freed_entry, later_than}
use Rattle.draid_pool.specs.Groups.{DropsDetached, WasDetached}
use Rattle.draid_pool.proofs.Dropping.{leaf_by, stays_by}

-- ---- the slots of a state after it
module _ (old new : SlotTable) (w : machine.State) (group : ℕ) (commits : Commits old new group) (has : HasSlots old w.core) where
  abbrev arm_after : ArmName → Option machine.Arm
  arm_after n = if is_gone_arm group (w.core.arm n) then None else w.core.arm n

  was_at : (at : ArmAt) (arm : Arm) → arm_at new at ≡ Some arm → arm_at old at ≡ Some arm
  was_at at arm there = ap (λ arms. slice_get (slice_index_or arms at.slot []) at.arm) (sym commits.arms_stay) ∙ there

  is_at : (at : ArmAt) (arm : Arm) → arm_at old at ≡ Some arm → arm_at new at ≡ Some arm
  is_at at arm there = ap (λ arms. slice_get (slice_index_or arms at.slot []) at.arm) commits.arms_stay ∙ there

  same_arm : (at : ArmAt) (arm : Arm) → Some (arm_in old at arm) ≡ Some (arm_in new at arm)
  same_arm at arm = λ i. Some (record { offline = arm.offline; fresh = arm.fresh; log = is_logged (record old { logs = sym commits.logs_stay i }) at; gone = None })

  -- what isn't gone stays
  arm_stays : (n : ArmName) (a : machine.Arm) → w.core.arm n ≡ Some a → is_gone_by group a.gone ≡ false → arm_after n ≡ Some a
  arm_stays n a found late = ap (λ (o : Option machine.Arm). if is_gone_arm group o then None else o) found ∙ ap (λ b. if b then None else Some a) late

  later : (gone : Detached) → nat_lt group gone.group ≡ true → nat_le gone.group group ≡ false
  later gone is = grind (arith, nat_tests, is)

  not_later : (gone : Detached) → nat_le gone.group group ≡ false → nat_lt group gone.group ≡ true
  not_later gone is = grind (arith, nat_tests, is)

  detached_stays : (gone : Detached) → Contains new.detached gone → IsGone gone (arm_after (named gone.kind gone.number))
  detached_stays gone among =
      let z = was_among (λ (gone : Detached). nat_lt group gone.group) old.detached gone (subst (λ (list : List Detached). Contains list gone) commits.detached_later among) in
      let was = has.detached gone z.0 in
      record {
        arm = was.arm;
        there = arm_stays (named gone.kind gone.number) was.arm was.there (ap (is_gone_by group) was.by ∙ later gone z.1);
        offline = was.offline;
        by = was.by;
      }

  -- an arm that the state has is there, or was detached later
  stays : (n : ArmName) (a : machine.Arm) → w.core.arm n ≡ Some a → is_gone_by group a.gone ≡ false → HasArm old n ⊎ WasArm old n → HasArm new n ⊎ WasArm new n
  stays n a found late (inl h) = inl (record { at = h.at; arm = h.arm; there = is_at h.at h.arm h.there; name_is = h.name_is })
  stays n a found late (inr g) = inr (record { gone = g.gone; among = subst (λ (list : List Detached). Contains list g.gone) (sym commits.detached_later) kept; name_is = g.name_is })
    where
      was : IsGone g.gone (w.core.arm (named g.gone.kind g.gone.number))
      was = has.detached g.gone g.among

      same : was.arm ≡ a
      same = some_same (w.core.arm n) was.arm a (subst (λ m. w.core.arm m ≡ Some was.arm) g.name_is was.there) found

      after : nat_lt group g.gone.group ≡ true
      after = not_later g.gone (sym (ap (is_gone_by group) was.by) ∙ ap (λ (b : machine.Arm). is_gone_by group b.gone) same ∙ late)

      kept : Contains (later_than group old.detached) g.gone
      kept = kept_among (λ (gone : Detached). nat_lt group gone.group) old.detached g.gone g.among after

  only : (n : ArmName) → arm_after n ≢ None → HasArm new n ⊎ WasArm new n
  only n some = by (w.core.arm n) refl
    where
      by : (o : Option machine.Arm) → w.core.arm n ≡ o → HasArm new n ⊎ WasArm new n
      by None at = absurd (some (ap (λ (o : Option machine.Arm). if is_gone_arm group o then None else o) at))
      by (Some a) at = elim (bool_cases (is_gone_by group a.gone)) [
        | inl gone ↦ absurd (some (ap (λ (o : Option machine.Arm). if is_gone_arm group o then None else o) at ∙ ap (λ b. if b then None else Some a) gone))
        | inr late ↦ stays n a at late (has.only n (λ none. none_some (w.core.arm n) a none at))
      ]

  pub slots_after : (q : machine.Core) → q.order ≡ w.core.order → q.arm ≡ arm_after → HasSlots new q
  slots_after q order arm = record {
    order = λ slot. ap (λ (f : ℕ → List ArmName). f slot) order ∙ has.order slot ∙ ap (λ arms. map name_of (slice_index_or arms slot [])) (sym commits.arms_stay);
    arms = λ at a there. ap (λ (f : ArmName → Option machine.Arm). f (name_of a)) arm ∙ arm_stays (name_of a) (arm_in old at a) (has.arms at a (was_at at a there)) refl ∙ same_arm at a;
    detached = λ gone among. subst (λ (f : ArmName → Option machine.Arm). IsGone gone (f (named gone.kind gone.number))) (sym arm) (detached_stays gone among);
    only = λ n some. only n (subst (λ (f : ArmName → Option machine.Arm). f n ≢ None) arm some);
  }

-- ---- versions

-- the version that was asked for may hold no less
more_held : (version asked : ℕ) → (version ≡ 1) ⊎ (version ≡ 2) → version ≤ asked → asked ≤ 2 → most_held version ≤ most_held asked
more_held version asked (inl one) low high = elim (cases_lt 1 asked) [
  | inl two ↦ (let a : asked ≡ 2 = omega (arith, two, high) in rw (one, a) (omega arith))
  | inr same ↦ (let a : asked ≡ 1 = omega (arith, same, low, one) in rw (one, a) (omega arith))
]
more_held version asked (inr two) low high = let a : asked ≡ 2 = omega (arith, two, low, high) in rw (two, a) (omega arith)

is_version : (version asked : ℕ) → (version ≡ 1) ⊎ (version ≡ 2) → version ≤ asked → asked ≤ 2 → (asked ≡ 1) ⊎ (asked ≡ 2)
is_version version asked (inl one) low high = elim (cases_lt 1 asked) [
  | inl two ↦ inr (omega (arith, two, high))
  | inr same ↦ inl (omega (arith, same, low, one))
]
is_version version asked (inr two) low high = inr (omega (arith, two, low, high))

pub owes_one : (closing : Option ℕ) (sealed : Bool) (group : ℕ) → closing ≡ Some group → sealed ≡ true → owed_for_group closing sealed ≡ 1
owes_one closing sealed group closing_is sealed_is = ap (λ o. owed_for_group o sealed) closing_is ∙ ap (λ b. owed_for_group (Some group) b) sealed_is

-- ---- the loan that counts

-- the entry over its stripe is its block's
pub keeps_some : {R A : Type 0} (rack : Ghosts R) (shard : Shard R A) → Valid rack shard → (kept : KeptLoan) → shard.kept ≡ Some kept → (e : Entry)
    → ((d : Entry) → IsOver shard.entries (loan_in kept).stripe d → d ≡ e) → (group : ℕ) (freed : Bool) → freed ≡ is_freed_by group e.stage → KeepsLoan shard group freed
keeps_some rack shard v kept is e only group freed freed_is w reached at =
    let lent : w.loan ≡ Some (loan_in kept) = at.loan ∙ ap (option_map loan_in) is in
    let fits = (reached_sound (layout_by shard) (lays (part_of shard) v.part) w reached).loan (loan_in kept) lent in
    let over = held_over shard w at (loan_in kept).key fits.h (loan_in kept).stripe fits.found fits.taken in
    let same : fits.h ≡ held_at e = sym over.is ∙ ap held_at (only over.e over.over) in
    let gone : is_freed_block group (w.core.held (loan_in kept).key) ≡ freed = ap (is_freed_block group) (fits.found ∙ ap Some same) ∙ sym freed_is in
    ap (keep_loan (λ k. is_freed_block group (w.core.held k))) lent ∙ ap (λ b. keep_if (not b) (loan_in kept)) gone ∙ by freed ∙ ap (λ o. option_map loan_in (if freed then None else o)) (sym is)
  where
    by : (b : Bool) → keep_if (not b) (loan_in kept) ≡ option_map loan_in (if b then None else Some kept)
    by true = refl
    by false = refl

-- without one no loan counts
pub keeps_absent : {R A : Type 0} (rack : Ghosts R) (shard : Shard R A) → Valid rack shard → (kept : KeptLoan) → shard.kept ≡ Some kept → ((d : Entry) → IsOver shard.entries (loan_in kept).stripe d → ⊥) → (group : ℕ)
    → KeepsLoan shard group false
keeps_absent rack shard v kept is none group w reached at =
    let lent : w.loan ≡ Some (loan_in kept) = at.loan ∙ ap (option_map loan_in) is in
    let fits = (reached_sound (layout_by shard) (lays (part_of shard) v.part) w reached).loan (loan_in kept) lent in
    let over = held_over shard w at (loan_in kept).key fits.h (loan_in kept).stripe fits.found fits.taken in
    absurd (none over.e over.over)

pub keeps_none : {R A : Type 0} (shard : Shard R A) (group : ℕ) → shard.kept ≡ None → KeepsLoan shard group false
keeps_none shard group none w reached at =
    ap (keep_loan (λ k. is_freed_block group (w.core.held k))) (at.loan ∙ ap (option_map loan_in) none) ∙ ap (option_map loan_in) (sym none)

-- ---- the shard

module _ {R A : Type 0} (ghosts : Ghosts R) (old : Shard R A) (valid : Valid ghosts old) (group : ℕ) (closing_is : old.closing ≡ Some group) (sealed_is : old.sealed ≡ true) (rack : R) (space : Stripes)
    (entries : Entries) (slots : SlotTable) (lends : Bool) (kept : Option KeptLoan) (kept_is : kept ≡ (if lends then None else old.kept)) (history : History) (freed : DropsFreed group old.entries entries) (commits : Commits old.slots slots group)
    (listed : DropsListed ghosts old.slots group old.slots.detached old.rack rack) where
  abbrev after : Shard R A
  after = record old {
    rack = rack;
    space = space;
    entries = entries;
    slots = slots;
    kept = kept;
    history = history;
    committed = group;
    closing = None;
    sealed = false;
    version = old.asked;
  }

  groups : (old.open_group ≡ group + 1) × (group ≡ old.committed + 1)
  groups = subst (λ o. AreGroups old.open_group o old.committed old.sealed) closing_is valid.groups

  -- ---- the tables
  was_there : (first : ℕ) (e : Entry) → entry_at entries first ≡ Some e → entry_at old.entries first ≡ Some e
  was_there first e there = (kept_some (is_freed_entry group (entry_at old.entries first)) (entry_at old.entries first) e (sym (freed.at first) ∙ there)).1

  logs : LogsHaveRoom slots old.open_group 2 (changes_for_end old.pass None)
  logs =
      let had : LogsHaveRoom old.slots group 3 (changes_for_end old.pass (Some group))
      = subst (λ o. LogsHaveRoom old.slots (oldest_open old.open_group o) (birth_groups o) (changes_for_end old.pass o)) closing_is valid.logs in
      logs_kept old.slots slots old.open_group 2 (changes_for_end old.pass None) commits.arms_stay (λ at g. ap (λ logs. is_logged (record old.slots { logs = logs }) at g) commits.logs_stay) room
      (logs_later old.slots group old.open_group 2 (changes_for_end old.pass (Some group)) (changes_for_end old.pass None) groups.0 (fewer (is_rebuild old.pass)) had)
    where
      fewer : (b : Bool) → (if b then 2 else 0) ≤ (if b then 3 else 0)
      fewer true = omega arith
      fewer false = omega arith

      room : (at : ArmAt) → room_at old.slots at ≤ room_at slots at
      room at = subst (λ logs. room_at old.slots at ≤ room_at (record old.slots { logs = logs }) at) (sym commits.logs_stay) (omega arith)

  -- ---- leaves that stay are there as before
  leaf_stays : (leaf : ℕ) → IsLeaf slots leaf → listed.goes leaf ≡ false
  leaf_stays leaf is = elim (bool_cases (listed.goes leaf)) [
    | inl gone ↦ absurd ((listed.only leaf gone).1 (stays_by old.slots slots group leaf commits is))
    | inr stays ↦ stays
  ]

  same_leaf : (leaf : ℕ) → listed.goes leaf ≡ false → (ghosts.shape rack).leaves leaf ≡ (ghosts.shape old.rack).leaves leaf
  same_leaf leaf stays = listed.drops.leaves leaf ∙ ap (λ b. if b then None else (ghosts.shape old.rack).leaves leaf) stays

  -- a leaf that stays was there
  was_leaf : (leaf : ℕ) → StaysLeaf old.slots group leaf → IsLeaf old.slots leaf
  was_leaf leaf (inl it) = inl it
  was_leaf leaf (inr gone) =
      inr (any_kept (λ (gone : Detached). is_leaf_kind gone.kind && (gone.number == leaf)) (λ (gone : Detached). nat_lt group gone.group) old.slots.detached gone)

  leaves : HasLeaves (ghosts.shape rack) old.geometry slots
  leaves = record {
    bytes = listed.drops.bytes ∙ valid.leaves.bytes;
    leaves = λ leaf is. same_leaf leaf (leaf_stays leaf is) ∙ valid.leaves.leaves leaf (was_leaf leaf (stays_by old.slots slots group leaf commits is));
  }

  pub commit_valid : Tables old.geometry old.open_group space entries → space.disabled ≡ old.space.disabled → owed_of history + 1 + owed_for_loan old.kept ≡ owed_of old.history + owed_for_loan kept
      → reserved_of history ≡ reserved_of old.history → stored_of old.history ≤ stored_of history → Valid ghosts after
  commit_valid tables disabled owed reserved stored = record {
    part = valid.part;
    version = is_version old.version old.asked valid.version valid.asked.0 valid.asked.1;
    asked = (let high = valid.asked.1 in (omega arith, high));
    tables = tables;
    disabled = disabled ∙ valid.disabled;
    few =
        (let more = more_held old.version old.asked valid.version valid.asked.0 valid.asked.1 in
        let few = valid.few in
        let count = freed.count in
        omega (arith, more, few, count));
    here = record { each = λ first e there. valid.here.each first e (was_there first e there) };
    slots = record {
      geometry_is = commits.same.geometry_is ∙ valid.slots.geometry_is;
      perms_are = commits.same.perms_are ∙ valid.slots.perms_are;
      metaslab_is = commits.same.metaslab_is ∙ valid.slots.metaslab_is;
    };
    once = once_fewer old.slots slots commits.arms_stay (λ gone among. (was_among (λ (gone : Detached). nat_lt group gone.group) old.slots.detached gone
        (subst (λ (list : List Detached). Contains list gone) commits.detached_later among)).0) valid.once;
    pass = pass_held old.slots slots old.last_pass old.pass commits.arms_stay valid.pass;
    kept = subst (λ (o : Option KeptLoan). IfSome o (IsKept old.geometry old.pass)) (sym kept_is) (still lends);
    serial = (let low = valid.serial in omega (arith, low, stored));
    flushed = valid.flushed;
    logs = logs;
    leaves = leaves;
    groups = (groups.0, refl);
    low = valid.low;
    tickets = λ first e put missed there stage. valid.settled sealed_is first e put missed (was_there first e there) stage;
    settled = λ sealed. absurd (true≢false (sym sealed));
    owed =
        (let was = valid.owed in
        let one : owed_for_group old.closing old.sealed ≡ 1 = ap (λ o. owed_for_group o old.sealed) closing_is ∙ ap (λ b. owed_for_group (Some group) b) sealed_is in
        let same = freed.owed old.geometry.g in
        omega (arith, was, one, same, owed, reserved));
  } where
    still : (b : Bool) → IfSome (if b then None else old.kept) (IsKept old.geometry old.pass)
    still true = tt
    still false = valid.kept

  -- ---- the event
  pub commit_leads : KeepsLoan old group lends → (w : machine.State) → IsReached (layout_by old) w → IsIn old w → Leads (layout_by old) w (Commit group) after
  commit_leads loan w reached at = by w.sealed refl
    where
      by : (o : Option machine.Image) → w.sealed ≡ o → Leads (layout_by old) w (Commit group) after
      by None none = absurd (true≢false (sym (sym (ap (λ (o : Option machine.Image). is_some o) none) ∙ at.sealed ∙ sealed_is)))
      by (Some image) is = record {
        state = commit_state (layout_by old) w group image;
        step = record { image = image; closing = at.closing ∙ closing_is; sealed = is; made = refl };
        is_in = record {
          held = λ key. ap (λ o. if is_freed_block group o then None else o) (at.held key) ∙ sym (freed.held key);
          slots = slots_after old.slots slots w group commits at.slots (commit_state (layout_by old) w group image).core refl refl;
          pass = at.pass ∙ pass_same old.slots slots old.pass commits.arms_stay;
          last = at.last;
          open_group_is = at.open_group_is;
          closing = refl;
          sealed = refl;
          committed = refl;
          version = (every_fit (layout_by old) w (lays (part_of old) valid.part) reached).versions.sealed image is ∙ at.asked;
          asked = at.asked;
          serial = at.serial;
          loan = loan w reached at ∙ sym (ap (option_map loan_in) kept_is);
        };
      }

  -- ---- the rack
  kind_of : (k : ArmKind) (number leaf : ℕ) → named k number ≡ Leaf leaf → (k ≡ kind.Leaf) × (number ≡ leaf)
  kind_of kind.Leaf number leaf same = (refl, cc)
  kind_of kind.Spare number leaf same = absurd (cc)

  arm_leaf : (leaf : ℕ) → HasArm old.slots (Leaf leaf) → StaysLeaf old.slots group leaf
  arm_leaf leaf h = let z = kind_of h.arm.kind h.arm.number leaf h.name_is in inl (h.at, h.arm, h.there, z.0, z.1)

  gone_leaf : (w : machine.State) (leaf : ℕ) → HasSlots old.slots w.core → StaysAfter w group leaf → WasArm old.slots (Leaf leaf) → StaysLeaf old.slots group leaf
  gone_leaf w leaf has s g = elim (stays old.slots slots w group commits has (Leaf leaf) s.a s.found s.late (inr g)) [
    | inl h ↦ arm_leaf leaf (record { at = h.at; arm = h.arm; there = was_at old.slots slots w group commits has h.at h.arm h.there; name_is = h.name_is })
    | inr later ↦ (let z = kind_of later.gone.kind later.gone.number leaf later.name_is in
        inr (any_among (λ (gone : Detached). is_leaf_kind gone.kind && (gone.number == leaf)) (later_than group old.slots.detached) later.gone
        (subst (λ (list : List Detached). Contains list later.gone) commits.detached_later later.among)
        (true_both (is_leaf_kind later.gone.kind) (later.gone.number == leaf) (ap is_leaf_kind z.0) (grind (arith, nat_tests, z.1)))))
  ]

  pub commit_acts : (pieces : Pieces) → ActsOn ghosts old after (Commit group) pieces
  commit_acts pieces w next step reached at = both (ghosts.told old.rack) (ghosts.told rack) listed.drops.told
    where
      stays_leaf : (leaf : ℕ) → StaysAfter w group leaf → StaysLeaf old.slots group leaf
      stays_leaf leaf s = elim (at.slots.only (Leaf leaf) (λ none. none_some (w.core.arm (Leaf leaf)) s.a none s.found)) [
        | inl h ↦ arm_leaf leaf h
        | inr g ↦ gone_leaf w leaf at.slots s g
      ]

      remains : (leaf : ℕ) → StaysAfter w group leaf → listed.goes leaf ≡ false
      remains leaf s = elim (bool_cases (listed.goes leaf)) [
        | inl gone ↦ absurd ((listed.only leaf gone).1 (stays_leaf leaf s))
        | inr stays ↦ stays
      ]

      both : (o p : Option Told) → LeavesTold (λ leaf sector. listed.goes leaf) o p → OnBothTold o p (DropsBut (StaysAfter w group))
      both None p is = is
      both (Some x) None is = absurd is
      both (Some x) (Some y) is = record { goes = listed.goes; kept = remains; others = is }

  pub commit_drops : DropsDetached ghosts old after group
  commit_drops = record {
    bytes = listed.drops.bytes;
    others = λ leaf none. elim (bool_cases (listed.goes leaf)) [
      | inl gone ↦ absurd (none (detached_by leaf (listed.only leaf gone).0))
      | inr stays ↦ same_leaf leaf stays
    ];
    stay = λ leaf is. same_leaf leaf (leaf_stays leaf is);
    go = λ leaf was none. listed.drops.leaves leaf
        ∙ ap (λ b. if b then None else (ghosts.shape old.rack).leaves leaf) (listed.all leaf (among_by leaf was) (λ stays. none (leaf_by old.slots slots group leaf commits stays)));
    rack_count = listed.drops.counts None (λ leaf is. absurd (none_some None leaf refl is));
    counts = λ leaf is. listed.drops.counts (Some leaf) (λ other same. ap listed.goes (sym (some_injective leaf other same)) ∙ leaf_stays leaf is);
  } where
    detached_by : (leaf : ℕ) → IsAmong old.slots.detached group leaf → WasDetached old.slots group leaf
    detached_by leaf a = record { gone = a.gone; among = a.among; kind_is = a.kind_is; number_is = a.number_is; upto = a.upto }

    among_by : (leaf : ℕ) → WasDetached old.slots group leaf → IsAmong old.slots.detached group leaf
    among_by leaf a = record { gone = a.gone; among = a.among; kind_is = a.kind_is; number_is = a.number_is; upto = a.upto }

-- A valid shard stands for some state of its metaslab.
use Rattle.std.proofs.Common.{◌≡◌, ◌≢◌, ◌⊎◌, ◌∙◌, ℕ, zero, suc, Bool, true, false, List, [], ◌∷◌, Some, None, Option, map, refl, sym, ap, subst, inl, inr, is_some, option_map, if◌then◌else◌}
use Rattle.std.specs.Prelude.{Contains, slice_index_or}
use Rattle.std.specs.List.{list_any}
use Rattle.std.proofs.lemmas.List.Elements.{Contains-get_or}
use Rattle.draid_names.specs.declared.arm.Arm.{Arm}
use Rattle.draid_names.specs.declared.arm.ArmAt.{ArmAt}
use Rattle.draid_names.specs.declared.arm.ArmKind.TheVariants as kind
use Rattle.draid_rack.specs.declared.Rack.{Ghosts}
use Rattle.draid_machine.specs.declared.names.ArmName.{ArmName}
use Rattle.draid_machine.specs.Names.{has_name, name_eq, named}
use Rattle.draid_machine.specs.State as machine
use Rattle.draid_machine.proofs.Small.{absurd_test, bool_cases, name_refl, name_true, some_same, true_left, true_right}
use Rattle.draid_entries.specs.Entries.{held_in}
use Rattle.draid_slots.specs.declared.slot.Detached.{Detached}
use Rattle.draid_slots.specs.Table.{SlotTable, arm_at, arms_of}
use Rattle.draid_slots.specs.States.{HasArm, HasSlots, IsGone, WasArm, arm_in, name_of, pass_in}
use Rattle.draid_slots.proofs.Somewhere.{any_where}
use Rattle.draid_shard.specs.declared.shard.Shard.{Shard}
use Rattle.draid_shard.specs.Fits.{NamesOnce, Valid}
use Rattle.draid_shard.specs.Loans.{loan_in}
use Rattle.draid_shard.specs.States.{IsIn}
use Rattle.draid_shard.proofs.Among.{any_among}
use Rattle.draid_shard.proofs.Answering.{name_found, name_listed}

-- ---- whether an arm has a name

-- a slot that lies behind the last has no arm
any_slot : (test : List Arm → Bool) (lists : List (List Arm)) (slot : ℕ) → test [] ≡ false → test (slice_index_or lists slot []) ≡ true → list_any test lists ≡ true
any_slot test [] slot none is = absurd_test (test []) is none
any_slot test (x ∷ xs) zero none is = true_left (test x) (list_any test xs) is
any_slot test (x ∷ xs) (suc slot) none is = true_right (test x) (list_any test xs) (any_slot test xs slot none is)

module _ (slots : SlotTable) where
  abbrev has_in : ArmName → List Arm → Bool
  has_in n arms = has_name (map name_of arms) n

  abbrev was_of : ArmName → Detached → Bool
  was_of n gone = name_eq (named gone.kind gone.number) n

  nothing : Detached
  nothing = record { kind = kind.Leaf; number = 0; slot = 0; group = 0; offline = false }

  arm_found : (n : ArmName) → HasArm slots n ⊎ (HasArm slots n → ⊥)
  arm_found n = elim (bool_cases (list_any (has_in n) slots.arms)) [
    | inl any ↦ (let slot = any_where (has_in n) slots.arms [] any in
        let arm = name_found (arms_of slots slot.0) n slot.2 in
        inl (by (record { slot = slot.0; arm = arm.0 }) (arm_at slots (record { slot = slot.0; arm = arm.0 })) refl arm.2))
    | inr none ↦ inr (λ h. absurd_test (list_any (has_in n) slots.arms)
        (any_slot (has_in n) slots.arms h.at.slot refl (name_listed (arms_of slots h.at.slot) h.at.arm n (ap (option_map name_of) h.there ∙ ap Some h.name_is))) none)
  ] where
    by : (at : ArmAt) (o : Option Arm) → arm_at slots at ≡ o → option_map name_of o ≡ Some n → HasArm slots n
    by at None there named = absurd (cc)
    by at (Some a) there named = record { at = at; arm = a; there = there; name_is = some_same (Some (name_of a)) (name_of a) n refl named }

  gone_found : (n : ArmName) → WasArm slots n ⊎ (WasArm slots n → ⊥)
  gone_found n = elim (bool_cases (list_any (was_of n) slots.detached)) [
    | inl any ↦ (let z = any_where (was_of n) slots.detached nothing any in
        let gone : Detached = slice_index_or slots.detached z.0 nothing in
        inl (record { gone = gone; among = Contains-get_or slots.detached z.0 nothing z.1; name_is = name_true (named gone.kind gone.number) n z.2 }))
    | inr none ↦ inr (λ g. absurd_test (list_any (was_of n) slots.detached) (any_among (was_of n) slots.detached g.gone g.among (subst (λ m. name_eq (named g.gone.kind g.gone.number) m ≡ true) g.name_is (name_refl (named g.gone.kind g.gone.number)))) none)
  ]

  -- ---- what a state has of the arm of a name
  abbrev gone_arm : Detached → machine.Arm
  gone_arm gone = record { offline = gone.offline; fresh = false; log = λ group. false; gone = Some (record { slot = gone.slot; group = gone.group }) }

  abbrev arm_by : (n : ArmName) → HasArm slots n ⊎ (HasArm slots n → ⊥) → WasArm slots n ⊎ (WasArm slots n → ⊥) → Option machine.Arm
  arm_by n (inl h) found = Some (arm_in slots h.at h.arm)
  arm_by n (inr none) (inl g) = Some (gone_arm g.gone)
  arm_by n (inr none) (inr no_gone) = None

  abbrev arms_by : ArmName → Option machine.Arm
  arms_by n = arm_by n (arm_found n) (gone_found n)

  module _ (once : NamesOnce slots) where
    arm_is : (at : ArmAt) (a : Arm) → arm_at slots at ≡ Some a → (x : HasArm slots (name_of a) ⊎ (HasArm slots (name_of a) → ⊥)) (y : WasArm slots (name_of a) ⊎ (WasArm slots (name_of a) → ⊥))
        → arm_by (name_of a) x y ≡ Some (arm_in slots at a)
    arm_is at a there (inl h) y =
        let place = once.arms h.at at h.arm a h.there there h.name_is in
        let same = some_same (arm_at slots at) h.arm a (subst (λ p. arm_at slots p ≡ Some h.arm) place h.there) there in
        λ i. Some (arm_in slots (place i) (same i))
    arm_is at a there (inr none) y = absurd (none (record { at = at; arm = a; there = there; name_is = refl }))

    gone_is : (gone : Detached) → Contains slots.detached gone → (x : HasArm slots (named gone.kind gone.number) ⊎ (HasArm slots (named gone.kind gone.number) → ⊥))
        (y : WasArm slots (named gone.kind gone.number) ⊎ (WasArm slots (named gone.kind gone.number) → ⊥)) → IsGone gone (arm_by (named gone.kind gone.number) x y)
    gone_is gone among (inl h) y = absurd (once.apart h.at h.arm gone h.there among h.name_is)
    gone_is gone among (inr none) (inl g) =
        let same = once.detached g.gone gone g.among among g.name_is in
        record {
          arm = gone_arm g.gone;
          there = refl;
          offline = ap (λ (d : Detached). d.offline) same;
          by = ap (λ (d : Detached). Some (record { slot = d.slot; group = d.group })) same;
        }
    gone_is gone among (inr none) (inr no_gone) = absurd (no_gone (record { gone = gone; among = among; name_is = refl }))

    only : (n : ArmName) (x : HasArm slots n ⊎ (HasArm slots n → ⊥)) (y : WasArm slots n ⊎ (WasArm slots n → ⊥)) → arm_by n x y ≢ None → HasArm slots n ⊎ WasArm slots n
    only n (inl h) y some = inl h
    only n (inr none) (inl g) some = inr g
    only n (inr none) (inr no_gone) some = absurd (some refl)

    slots_shown : (q : machine.Core) → q.order ≡ (λ slot. map name_of (arms_of slots slot)) → q.arm ≡ arms_by → HasSlots slots q
    slots_shown q order arm = record {
      order = λ slot. ap (λ (f : ℕ → List ArmName). f slot) order;
      arms = λ at a there. ap (λ (f : ArmName → Option machine.Arm). f (name_of a)) arm ∙ arm_is at a there (arm_found (name_of a)) (gone_found (name_of a));
      detached = λ gone among. subst (λ (f : ArmName → Option machine.Arm). IsGone gone (f (named gone.kind gone.number))) (sym arm)
          (gone_is gone among (arm_found (named gone.kind gone.number)) (gone_found (named gone.kind gone.number)));
      only = λ n some. only n (arm_found n) (gone_found n) (λ none. some (ap (λ (f : ArmName → Option machine.Arm). f n) arm ∙ none));
    }

-- ---- the whole

abbrev core_by : {R A : Type 0} → Shard R A → machine.Core
core_by shard = record {
  held = held_in shard.entries;
  arm = arms_by shard.slots;
  order = λ slot. map name_of (arms_of shard.slots slot);
  pass = option_map (pass_in shard.slots) shard.pass;
  last = shard.last_pass;
}

-- what a shard stores, as a state; its images have the same core, and no segment is present
abbrev state_by : {R A : Type 0} → Shard R A → machine.State
state_by shard =
    let image : machine.Image = record { group = shard.committed; version = shard.version; core = core_by shard } in
    record {
      open_group = shard.open_group;
      closing = shard.closing;
      committed = shard.committed;
      version = shard.version;
      asked = shard.asked;
      core = core_by shard;
      serial = shard.serial;
      loan = option_map loan_in shard.kept;
      image = image;
      sealed = if shard.sealed then Some image else None;
      present = λ s. false;
      aside = λ s. false;
      kept = λ s. None;
    }

pub state_shown : {R A : Type 0} (rack : Ghosts R) (shard : Shard R A) → Valid rack shard → (w : machine.State) × IsIn shard w
state_shown rack shard v = (
  state_by shard,
  record {
    held = λ key. refl;
    slots = slots_shown shard.slots v.once (core_by shard) refl refl;
    pass = refl;
    last = refl;
    open_group_is = refl;
    closing = refl;
    sealed = by shard.sealed (state_by shard).image;
    committed = refl;
    version = refl;
    asked = refl;
    serial = refl;
    loan = refl;
  },
) where
  by : (b : Bool) (image : machine.Image) → is_some (if b then Some image else None) ≡ b
  by true image = refl
  by false image = refl

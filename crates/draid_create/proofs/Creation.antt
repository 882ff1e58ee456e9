-- A new metaslab: its slots, its empty tables, and the state for which it stands.
use Rattle.std.proofs.Common.{if◌then◌else◌, ◌≡◌, ◌≢◌, ◌⊎◌, ◌<◌, ◌≤◌, ◌&&◌, not, ◌∙◌, ℕ, zero, suc, Bool, true, false, nat_lt, List, [], ◌∷◌, Some, None, Contains, map, length, slice_get, slice_index_or, ◌==◌, arith, refl, sym, ap, inl, inr, subst}
use Rattle.std.specs.List.{list_any}
use Rattle.std.proofs.lemmas.Bool.{cases_lt}
use Rattle.std.proofs.lemmas.Bool.Decides.{nat_tests}
use Rattle.std.proofs.lemmas.List.{get_or_past}
use Rattle.draid_names.specs.declared.arm.Arm.{Arm}
use Rattle.draid_names.specs.declared.arm.ArmAt.{ArmAt}
use Rattle.draid_spec.specs.declared.layout.Geometry.{Geometry}
use Rattle.draid_spec.specs.Geometry.{metaslab_sectors, metaslab_stripes}
use Rattle.draid_rack.specs.Rack.{HasJust, Shape}
use Rattle.draid_metaslab.specs.Spaces.{Stripes, is_free}
use Rattle.draid_machine.specs.declared.names.ArmName.{ArmName}
use Rattle.draid_machine.specs.declared.names.ArmName.TheVariants.{Leaf, Spare}
use Rattle.draid_machine.specs.Created.{created_arm, created_core, new_arm as new_of}
use Rattle.draid_machine.specs.State as machine
use Rattle.draid_machine.proofs.Small.{none_some, some_injective}
use Rattle.draid_slots.specs.declared.slot.Detached.{Detached}
use Rattle.draid_slots.specs.Changes.{IsNew, Keeps, new_arm}
use Rattle.draid_slots.specs.Table.{SlotTable, arm_at, arms_of, is_leaf_kind}
use Rattle.draid_entries.specs.declared.entries.Entries.{Entries}
use Rattle.draid_entries.specs.Entries.{count_of, entry_at, owed_at, owed_by}
use Rattle.draid_entries.proofs.Sums.{sum_none}
use Rattle.draid_names.specs.declared.numbers.TheConstants.{NUMBERS}
use Rattle.draid_slots.specs.States.{HasArm, HasSlots, WasArm, arm_in, name_of}
use Rattle.draid_shard.specs.Fits.{AreHere, HasLeaves, IsLeaf, NamesOnce, Tables, TicketsAreNew}

-- ---- slots

pub still_new : (old new : SlotTable) (children : ℕ) → Keeps old new → IsNew children old → IsNew children new
still_new old new children kept is = record {
  count = ap length kept.arms_stay ∙ is.count;
  arms_are = λ slot below. subst (λ (arms : List (List Arm)). slice_index_or arms slot [] ≡ new_arm slot ∷ []) (sym kept.arms_stay) (is.arms_are slot below);
  missed_none = λ at group. kept.logs_stay at group ∙ is.missed_none at group;
  detached_none = kept.detached_stay ∙ is.detached_none;
}

-- the one arm of a slot, and where a slot isn't there
pub record IsOwn (children : ℕ) (at : ArmAt) (arm : Arm) : Type 0 where
  pub below : at.slot < children
  pub first : at.arm ≡ 0
  pub is : arm ≡ new_arm at.slot

own_arm : (children : ℕ) (slots : SlotTable) (at : ArmAt) (arm : Arm) → IsNew children slots → arm_at slots at ≡ Some arm → IsOwn children at arm
own_arm children slots at arm is there = elim (cases_lt at.slot children) [
  | inl below ↦ (let one = inside at.arm (ap (λ arms. slice_get arms at.arm) (sym (is.arms_are at.slot below)) ∙ there) in record { below = below; first = one.0; is = one.1 })
  | inr past ↦ absurd (none_some (slice_get (arms_of slots at.slot) at.arm) arm (ap (λ arms. slice_get arms at.arm) (none past)) there)
] where
  inside : (k : ℕ) → slice_get (new_arm at.slot ∷ []) k ≡ Some arm → (k ≡ 0) × (arm ≡ new_arm at.slot)
  inside zero found = (refl, some_injective arm (new_arm at.slot) (sym found))
  inside (suc k) found = absurd (none_some (slice_get {X = Arm} [] k) arm refl found)

  none : children ≤ at.slot → arms_of slots at.slot ≡ []
  none past = get_or_past slots.arms at.slot [] (let count = is.count in omega (arith, count, past))

no_gone : (children : ℕ) (slots : SlotTable) → IsNew children slots → (gone : Detached) → Contains slots.detached gone → ⊥
no_gone children slots is gone among = let less = among.1 in let none : length slots.detached ≡ 0 = ap length is.detached_none in omega (arith, less, none)

-- each name is that of one arm
pub once_new : (children : ℕ) (slots : SlotTable) → IsNew children slots → NamesOnce slots
once_new children slots is = record {
  arms = λ at other a b there also name.
      (let x = own_arm children slots at a is there in
      let y = own_arm children slots other b is also in
      let slot = leaf_number at.slot other.slot (ap name_of (sym x.is) ∙ name ∙ ap name_of y.is) in
      λ i. record { slot = slot i; arm = (x.first ∙ sym y.first) i });
  detached = λ gone other among also name. absurd (no_gone children slots is gone among);
  apart = λ at a gone there among name. no_gone children slots is gone among;
} where
  leaf_number : (m n : ℕ) → Leaf m ≡ Leaf n → m ≡ n
  leaf_number m n same = cc

-- just the leaves of the children are there
pub has_leaves : (shape : Shape) (geometry : Geometry) (slots : SlotTable) → HasJust shape geometry.spec.children (metaslab_sectors geometry) geometry.props.sector
    → IsNew geometry.spec.children slots → HasLeaves shape geometry slots
has_leaves shape geometry slots just is = record { bytes = just.length_of_sector; leaves = leaves } where
  leaves : (leaf : ℕ) → IsLeaf slots leaf → shape.leaves leaf ≡ Some (metaslab_sectors geometry)
  leaves leaf (inl arm) =
      let own = own_arm geometry.spec.children slots arm.0 arm.1 is arm.2 in
      let number : arm.0.slot ≡ leaf = ap (λ (a : Arm). a.number) (sym own.is) ∙ arm.4 in
      just.there leaf (let below = own.below in omega (arith, below, number))
  leaves leaf (inr gone) = absurd (left slots.detached is.detached_none gone)
    where
      left : (detached : List Detached) → detached ≡ [] → list_any (λ (gone : Detached). is_leaf_kind gone.kind && (gone.number == leaf)) detached ≡ true → ⊥
      left detached none there = absurd (cc)

-- ---- the state

pub created_slots : (l : machine.Layout) (children : ℕ) (slots : SlotTable) → l.slots ≡ children → IsNew children slots → HasSlots slots (created_core l)
created_slots l children slots same is = record {
  order = λ slot. order slot (cases_lt slot children);
  arms = λ at arm there. arms at arm (own_arm children slots at arm is there);
  detached = λ gone among. absurd (no_gone children slots is gone among);
  only = only;
} where
  inside : (slot : ℕ) → slot < children → nat_lt slot l.slots ≡ true
  inside slot below = grind (arith, nat_tests, below, same)

  order : (slot : ℕ) → (slot < children) ⊎ (children ≤ slot) → (if nat_lt slot l.slots then Leaf slot ∷ [] else []) ≡ map name_of (arms_of slots slot)
  order slot (inl below) = ap (λ b. if b then Leaf slot ∷ [] else []) (inside slot below) ∙ ap (map name_of) (sym (is.arms_are slot below))
  order slot (inr past) =
      let outside : nat_lt slot l.slots ≡ false = grind (arith, nat_tests, past, same) in
      let none : arms_of slots slot ≡ [] = get_or_past slots.arms slot [] (let count = is.count in omega (arith, count, past)) in
      ap (λ b. if b then Leaf slot ∷ [] else []) outside ∙ ap (map name_of) (sym none)

  new_in : (at : ArmAt) → Some new_of ≡ Some (arm_in slots at (new_arm at.slot))
  new_in at = λ i. Some (record { offline = false; fresh = false; log = λ g. sym (is.missed_none at g) i; gone = None })

  arms : (at : ArmAt) (arm : Arm) → IsOwn children at arm → created_arm l (name_of arm) ≡ Some (arm_in slots at arm)
  arms at arm own = subst (λ arm. created_arm l (name_of arm) ≡ Some (arm_in slots at arm)) (sym own.is)
      (ap (λ b. if b then Some new_of else None) (inside at.slot own.below) ∙ new_in at)

  only : (n : ArmName) → created_arm l n ≢ None → HasArm slots n ⊎ WasArm slots n
  only (Leaf m) some = by (cases_lt m children)
    where
      by : (m < children) ⊎ (children ≤ m) → HasArm slots (Leaf m) ⊎ WasArm slots (Leaf m)
      by (inl below) = inl (record { at = record { slot = m; arm = 0 }; arm = new_arm m; there = ap (λ arms. slice_get arms 0) (is.arms_are m below); name_is = refl })
      by (inr past) =
          let outside : nat_lt m l.slots ≡ false = grind (arith, nat_tests, past, same) in
          absurd (some (ap (λ b. if b then Some new_of else None) outside))
  only (Spare t) some = absurd (some refl)

-- ---- empty tables

all_free : (free : Bool) (x total : ℕ) → x < total → free ≡ (nat_lt x total && not false) → free ≡ false → ⊥
all_free free x total below is none = grind (arith, nat_tests, below, is, none)

free_inside : (free : Bool) (x total : ℕ) → free ≡ (nat_lt x total && not false) → free ≡ true → x < total
free_inside free x total is at = grind (arith, nat_tests, is, at)

pub empty_tables : (geometry : Geometry) (group : ℕ) (space : Stripes) (entries : Entries) → space.height ≡ geometry.props.height → space.total ≡ metaslab_stripes geometry → space.held ≡ 0
    → count_of entries ≡ 0 → ((first : ℕ) → entry_at entries first ≡ None) → ((x : ℕ) → is_free space x ≡ (nat_lt x (metaslab_stripes geometry) && not false))
    → Tables geometry group space entries
empty_tables geometry group space entries height total held count none free = record {
  height = height;
  total = total;
  count = held ∙ sym count;
  inside = λ x at. free_inside (is_free space x) x (metaslab_stripes geometry) (free x) at;
  placed = λ first e there. absurd (none_some (entry_at entries first) e (none first) there);
  apart = λ j k a b ha hb lt. absurd (none_some (entry_at entries j) a (none j) ha);
  covered = λ x below taken. absurd (all_free (is_free space x) x (metaslab_stripes geometry) below (free x) taken);
}

pub no_tickets : (entries : Entries) (from : ℕ) → ((first : ℕ) → entry_at entries first ≡ None) → TicketsAreNew entries from
no_tickets entries from none first e put missed there stage = absurd (none_some (entry_at entries first) e (none first) there)

pub none_here : (entries : Entries) (number : ℕ) → ((first : ℕ) → entry_at entries first ≡ None) → AreHere entries number
none_here entries number none = record { each = λ first e there. absurd (none_some (entry_at entries first) e (none first) there) }

pub owes_none : (columns : ℕ) (entries : Entries) → ((first : ℕ) → entry_at entries first ≡ None) → owed_by columns entries ≡ 0
unfolding owed_by
owes_none columns entries none = sum_none (λ first. owed_at columns (entry_at entries first)) NUMBERS (λ first. ap (owed_at columns) (none first))

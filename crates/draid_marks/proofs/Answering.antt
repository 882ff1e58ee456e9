-- The arms of slots keep what belongs to a stripe, and answer there, as in a state that has them.
use Rattle.std.proofs.Common.{◌≡◌, ◌<◌, ◌&&◌, ◌||◌, not, ◌∙◌, ℕ, zero, suc, true, false, List, [], ◌∷◌, Option, Some, None, arith, refl, sym, ap, ap₂, subst, inl, inr, map, length, slice_get, if◌then◌else◌}
use Rattle.std.specs.Prelude.{option_map}
use Rattle.draid_names.specs.declared.arm.Arm.{Arm}
use Rattle.draid_names.specs.declared.arm.ArmAt.{ArmAt}
use Rattle.draid_names.specs.declared.arm.ArmKind.{ArmKind}
use Rattle.draid_names.specs.declared.arm.ArmKind.TheVariants as kind
use Rattle.draid_map.specs.Place.{IsLayout}
use Rattle.draid_chain.specs.Chain as chain
use Rattle.draid_chain.proofs.Holders.{holder_is}
use Rattle.draid_layouts.specs.Layout.{slice_in, slice_of}
use Rattle.draid_machine.specs.declared.names.ArmName.{ArmName}
use Rattle.draid_machine.specs.Arms as arms
use Rattle.draid_machine.specs.Arms.{is_clean, is_here, is_silent, leaf_answers, leaf_at, logged, online, passes}
use Rattle.draid_machine.specs.Created.{IsReached}
use Rattle.draid_machine.specs.Images.{Owned}
use Rattle.draid_machine.specs.Names.{has_name, has_number, name_eq, named}
use Rattle.draid_machine.specs.State as machine
use Rattle.draid_machine.proofs.Losing.{every_segment}
use Rattle.draid_machine.proofs.Small.{absurd_test, below, either_true, name_refl, name_true, some_same, true_left, true_right}
use Rattle.draid_slots.specs.Reading as reading
use Rattle.draid_slots.specs.Reading.{answers, holder, holder_of, is_online, spare_slot}
use Rattle.draid_slots.specs.States.{HasSlots, arm_in, name_of}
use Rattle.draid_slots.specs.Table as table
use Rattle.draid_slots.specs.Table.{SlotTable, arm_at, arms_of, is_leaf_kind, is_logged, is_spare_kind}
use Rattle.draid_marks.specs.Layout.{layout_with}
use Rattle.draid_marks.specs.Silent.{is_silent_in, leaf_in}
use Rattle.draid_marks.proofs.Places.{has_column, lays, slice_follows}

-- ---- lists of arms, and of their names
first_leaf_is : (xs : List Arm) → arms.first_leaf (map name_of xs) ≡ option_map (λ (a : Arm). a.number) (reading.first_leaf xs)
first_leaf_is [] = refl
first_leaf_is (a ∷ xs) = by a.kind refl (first_leaf_is xs) where
  by : (k : ArmKind) → a.kind ≡ k → arms.first_leaf (map name_of xs) ≡ option_map (λ (a : Arm). a.number) (reading.first_leaf xs)
      → arms.first_leaf (named a.kind a.number ∷ map name_of xs) ≡ option_map (λ (a : Arm). a.number) (if is_leaf_kind a.kind then Some a else reading.first_leaf xs)
  by kind.Leaf e rest = ap (λ k. arms.first_leaf (named k a.number ∷ map name_of xs)) e ∙ sym (ap (λ k. option_map (λ (a : Arm). a.number) (if is_leaf_kind k then Some a else reading.first_leaf xs)) e)
  by kind.Spare e rest = ap (λ k. arms.first_leaf (named k a.number ∷ map name_of xs)) e ∙ rest ∙ sym (ap (λ k. option_map (λ (a : Arm). a.number) (if is_leaf_kind k then Some a else reading.first_leaf xs)) e)

first_spare_is : (xs : List Arm) → arms.first_spare (map name_of xs) ≡ table.first_spare xs
first_spare_is [] = refl
first_spare_is (a ∷ xs) = by a.kind refl (first_spare_is xs) where
  by : (k : ArmKind) → a.kind ≡ k → arms.first_spare (map name_of xs) ≡ table.first_spare xs
      → arms.first_spare (named a.kind a.number ∷ map name_of xs) ≡ (if is_spare_kind a.kind then Some a.number else table.first_spare xs)
  by kind.Leaf e rest = ap (λ k. arms.first_spare (named k a.number ∷ map name_of xs)) e ∙ rest ∙ sym (ap (λ k. if is_spare_kind k then Some a.number else table.first_spare xs) e)
  by kind.Spare e rest = ap (λ k. arms.first_spare (named k a.number ∷ map name_of xs)) e ∙ sym (ap (λ k. if is_spare_kind k then Some a.number else table.first_spare xs) e)

pub name_found : (xs : List Arm) (n : ArmName) → has_name (map name_of xs) n ≡ true → (k : ℕ) × (k < length xs) × (option_map name_of (slice_get xs k) ≡ Some n)
name_found [] n has = absurd_test false has refl
name_found (a ∷ xs) n has = elim (either_true (name_eq (name_of a) n) (has_name (map name_of xs) n) has) [
  | inl here ↦ (zero, omega arith, ap Some (name_true (name_of a) n here))
  | inr behind ↦ (let z = name_found xs n behind in (suc z.0, (let less = z.1 in omega (arith, less)), z.2))
]

pub name_listed : (xs : List Arm) (k : ℕ) (n : ArmName) → option_map name_of (slice_get xs k) ≡ Some n → has_name (map name_of xs) n ≡ true
name_listed [] k n is = absurd (cc)
name_listed (a ∷ xs) zero n is = true_left (name_eq (name_of a) n) (has_name (map name_of xs) n) (subst (λ m. name_eq m n ≡ true) (sym (some_same (Some (name_of a)) (name_of a) n refl is)) (name_refl n))
name_listed (a ∷ xs) (suc k) n is = true_right (name_eq (name_of a) n) (has_name (map name_of xs) n) (name_listed xs k n is)

-- what is at a place
pub named_arm : (o : Option Arm) (n : ArmName) → option_map name_of o ≡ Some n → (a : Arm) × (o ≡ Some a) × (name_of a ≡ n)
named_arm None n is = absurd (cc)
named_arm (Some a) n is = (a, refl, some_same (Some (name_of a)) (name_of a) n refl is)

-- ---- the leaf that keeps an arm's sectors is an arm of a slot
record IsArmLeaf (slots : SlotTable) (leaf : Arm) : Type 0 where
  at : ArmAt
  there : arm_at slots at ≡ Some leaf
  kind_is : leaf.kind ≡ kind.Leaf

found : (arms : List Arm) (leaf : Arm) → reading.first_leaf arms ≡ Some leaf → (k : ℕ) × (slice_get arms k ≡ Some leaf) × (leaf.kind ≡ kind.Leaf)
found [] leaf is = absurd (cc)
found (a ∷ others) leaf is = by a.kind refl (found others leaf) where
  by : (k : ArmKind) → a.kind ≡ k → (reading.first_leaf others ≡ Some leaf → (k : ℕ) × (slice_get others k ≡ Some leaf) × (leaf.kind ≡ kind.Leaf))
      → (k : ℕ) × (slice_get (a ∷ others) k ≡ Some leaf) × (leaf.kind ≡ kind.Leaf)
  by kind.Leaf e rest =
      let it : Some a ≡ Some leaf = subst (λ k. (if is_leaf_kind k then Some a else reading.first_leaf others) ≡ Some leaf) e is in
      (zero, it, some_same (Some leaf.kind) leaf.kind kind.Leaf refl (ap (option_map (λ (x : Arm). x.kind)) (sym it) ∙ ap Some e))
  by kind.Spare e rest =
      let behind = rest (subst (λ k. (if is_leaf_kind k then Some a else reading.first_leaf others) ≡ Some leaf) e is) in
      (suc behind.0, behind.1, behind.2)

holder_there : (slots : SlotTable) (at : ArmAt) (slice : ℕ) (leaf : Arm) → holder slots at slice ≡ Some leaf → IsArmLeaf slots leaf
holder_there slots at slice leaf is = by (arm_at slots at) refl is where
  by : (o : Option Arm) → arm_at slots at ≡ o → holder_of slots at.slot slice o ≡ Some leaf → IsArmLeaf slots leaf
  by None there it = absurd (cc)
  by (Some a) there it = by_kind a.kind refl where
    by_kind : (k : ArmKind) → a.kind ≡ k → IsArmLeaf slots leaf
    by_kind kind.Leaf e =
        let same : Some a ≡ Some leaf = subst (λ k. (if is_leaf_kind k then Some a else reading.first_leaf (arms_of slots (spare_slot slots at.slot a.number slice))) ≡ Some leaf) e it in
        record {
          at = at;
          there = there ∙ same;
          kind_is = some_same (Some leaf.kind) leaf.kind kind.Leaf refl (ap (option_map (λ (x : Arm). x.kind)) (sym same) ∙ ap Some e);
        }
    by_kind kind.Spare e =
        let in_slot : reading.first_leaf (arms_of slots (spare_slot slots at.slot a.number slice)) ≡ Some leaf
        = subst (λ k. (if is_leaf_kind k then Some a else reading.first_leaf (arms_of slots (spare_slot slots at.slot a.number slice))) ≡ Some leaf) e it in
        let at_k = found (arms_of slots (spare_slot slots at.slot a.number slice)) leaf in_slot in
        record { at = record { slot = spare_slot slots at.slot a.number slice; arm = at_k.0 }; there = at_k.1; kind_is = at_k.2 }

-- ---- in a state

module _ (slots : SlotTable) (lay : IsLayout slots.geometry slots.perms) (w : machine.State) (reached : IsReached (layout_with slots) w) (has : HasSlots slots w.core) where
  abbrev l : machine.Layout
  l = layout_with slots

  pub owned : Owned l w
  owned = every_segment l w (lays slots lay) reached

  first_spares_are : arms.first_spares w.core.order ≡ table.first_spares slots
  first_spares_are = λ i slot. (ap arms.first_spare (has.order slot) ∙ first_spare_is (arms_of slots slot)) i

  spare_low : (at : ArmAt) (a : Arm) → arm_at slots at ≡ Some a → a.kind ≡ kind.Spare → a.number < slots.geometry.spec.spares
  spare_low at a there e =
      (owned.spares a.number (arm_in slots at a) (subst (λ k. w.core.arm (named k a.number) ≡ Some (arm_in slots at a)) e (has.arms at a there))).0

  -- a leaf that is an arm answers just where it isn't offline
  pub leaf_is_online : (at : ArmAt) (a : Arm) → arm_at slots at ≡ Some a → a.kind ≡ kind.Leaf → leaf_answers w.core a.number ≡ not a.offline
  leaf_is_online at a there e =
      ap (λ o. is_here o && online o) (subst (λ k. w.core.arm (named k a.number) ≡ Some (arm_in slots at a)) e (has.arms at a there))

  -- an arm of the slot of a stripe's column
  module _ (x c : ℕ) (at : ArmAt) (a : Arm) (here : l.slot_of x c ≡ at.slot) (there : arm_at slots at ≡ Some a) where
    -- a spare's home is the slot to which its chain leads
    home_is : (t : ℕ) → l.home (arms.first_spares w.core.order) t x ≡ spare_slot slots at.slot t (slice_of slots.geometry x)
    home_is t =
        sym (holder_is slots.perms slots.geometry.spec.spares (slice_in slots.geometry slots.metaslab x) (l.slot_of x c) t (arms.first_spares w.core.order) (has_column slots lay x c))
        ∙ (λ i. chain.holder_in slots.perms slots.geometry.spec.spares (slice_follows slots lay x i) (first_spares_are i) (here i) t)

    pub leaf_at_is : leaf_at l w.core.order (name_of a) x ≡ leaf_in slots at (slice_of slots.geometry x)
    leaf_at_is = by a.kind refl ∙ sym (ap (λ o. option_map (λ (a : Arm). a.number) (holder_of slots at.slot (slice_of slots.geometry x) o)) there)
      where
        by : (q : ArmKind) → a.kind ≡ q → leaf_at l w.core.order (named a.kind a.number) x
            ≡ option_map (λ (a : Arm). a.number) (if is_leaf_kind a.kind then Some a else reading.first_leaf (arms_of slots (spare_slot slots at.slot a.number (slice_of slots.geometry x))))
        by kind.Leaf e =
            ap (λ q. leaf_at l w.core.order (named q a.number) x) e
            ∙ sym (ap (λ q. option_map (λ (a : Arm). a.number) (if is_leaf_kind q then Some a else reading.first_leaf (arms_of slots (spare_slot slots at.slot a.number (slice_of slots.geometry x))))) e)
        by kind.Spare e =
            ap (λ q. leaf_at l w.core.order (named q a.number) x) e
            ∙ ap (λ b. if b then arms.first_leaf (w.core.order (l.home (arms.first_spares w.core.order) a.number x)) else None)
            (below a.number slots.geometry.spec.spares (spare_low at a there e))
            ∙ ap (λ s. arms.first_leaf (w.core.order s)) (home_is a.number)
            ∙ ap arms.first_leaf (has.order (spare_slot slots at.slot a.number (slice_of slots.geometry x)))
            ∙ first_leaf_is (arms_of slots (spare_slot slots at.slot a.number (slice_of slots.geometry x)))
            ∙ sym (ap (λ q. option_map (λ (a : Arm). a.number) (if is_leaf_kind q then Some a else reading.first_leaf (arms_of slots (spare_slot slots at.slot a.number (slice_of slots.geometry x))))) e)

    pub answers_is : arms.answers l w.core (name_of a) x ≡ answers slots at (slice_of slots.geometry x)
    answers_is = ap (λ o. passes o (leaf_answers w.core)) leaf_at_is ∙ by (holder slots at (slice_of slots.geometry x)) refl
      where
        by : (o : Option Arm) → holder slots at (slice_of slots.geometry x) ≡ o → passes (option_map (λ (a : Arm). a.number) o) (leaf_answers w.core) ≡ is_online o
        by None at = refl
        by (Some leaf) held = let it = holder_there slots at (slice_of slots.geometry x) leaf held in leaf_is_online it.at leaf it.there it.kind_is

    -- it is clean there for a block
    pub clean_is : (birth : ℕ) → (arms.answers l w.core (name_of a) x && is_clean w.core birth (name_of a)) ≡ (answers slots at (slice_of slots.geometry x) && not (is_logged slots at birth))
    clean_is birth = ap₂ (λ b o. b && not (logged o birth)) answers_is (has.arms at a there)

    -- its leaf there is silent
    pub silent_there : (failed : List ℕ) → passes (leaf_at l w.core.order (name_of a) x) (is_silent w.core failed) ≡ is_silent_in slots failed at (slice_of slots.geometry x)
    silent_there failed = ap (λ o. passes o (is_silent w.core failed)) leaf_at_is ∙ by (leaf_in slots at (slice_of slots.geometry x)) refl
      where
        by : (o : Option ℕ) → leaf_in slots at (slice_of slots.geometry x) ≡ o → passes (leaf_in slots at (slice_of slots.geometry x)) (is_silent w.core failed)
            ≡ passes (leaf_in slots at (slice_of slots.geometry x)) (λ leaf. not (answers slots at (slice_of slots.geometry x)) || has_number failed leaf)
        by None on = ap (λ o. passes o (is_silent w.core failed)) on ∙ sym (ap (λ o. passes o (λ leaf. not (answers slots at (slice_of slots.geometry x)) || has_number failed leaf)) on)
        by (Some leaf) on =
            let same : leaf_answers w.core leaf ≡ answers slots at (slice_of slots.geometry x) = sym (ap (λ o. passes o (leaf_answers w.core)) (leaf_at_is ∙ on)) ∙ answers_is in
            ap (λ o. passes o (is_silent w.core failed)) on
            ∙ ap (λ b. not b || has_number failed leaf) same
            ∙ sym (ap (λ o. passes o (λ leaf. not (answers slots at (slice_of slots.geometry x)) || has_number failed leaf)) on)

-- A column is read from the arm that the state machine says.
use Rattle.std.proofs.Common.{◌≡◌, ◌<◌, ◌⊎◌, ◌&&◌, not, ◌∙◌, ℕ, zero, suc, Bool, true, false, List, [], ◌∷◌, Option, Some, None, arith, refl, sym, ap, ap₂, subst, inl, inr, map, length, slice_get, if◌then◌else◌}
use Rattle.std.specs.Prelude.{find, option_map}
use Rattle.draid_names.specs.Spares.{AreOfOne, AreSpares, IsArm}
use Rattle.draid_names.specs.declared.arm.Arm.{Arm}
use Rattle.draid_names.specs.declared.pointer.Pointer.{Pointer}
use Rattle.draid_perm.specs.Perms.{children_of}
use Rattle.draid_map.proofs.Distinct as distinct
use Rattle.draid_chain.specs.Chain.{holder_in}
use Rattle.draid_chain.proofs.Holders.{holder_is, holder_no_column, holders_same}
use Rattle.draid_layouts.specs.Layout.{pool_stripe, slice_in}
use Rattle.draid_machine.specs.declared.names.ArmName.{ArmName}
use Rattle.draid_machine.specs.declared.names.ArmName.TheVariants.{Leaf, Spare}
use Rattle.draid_machine.specs.declared.names.Held.{Held}
use Rattle.draid_machine.specs.declared.names.Stage.TheVariants.{Live}
use Rattle.draid_machine.specs.Arms as arms
use Rattle.draid_machine.specs.Arms.{else_some, is_clean, leaf_at, logged}
use Rattle.draid_machine.specs.Created.{IsReached}
use Rattle.draid_machine.specs.Images.{Owned}
use Rattle.draid_machine.specs.Names.{has_name, name_eq}
use Rattle.draid_machine.specs.State as machine
use Rattle.draid_machine.proofs.Losing.{every_segment}
use Rattle.draid_machine.proofs.Small.{below, name_refl, some_same, true_left, true_right}
use Rattle.draid_entries.specs.Maps.{held_at, staged}
use Rattle.draid_slots.specs.Changes.{IsOf}
use Rattle.draid_slots.specs.Reading.{IsNone, answers_in, is_clean_in}
use Rattle.draid_slots.specs.Table.{SlotTable, arm_at, arms_of, is_logged}
use Rattle.draid_shard.specs.Part.{IsPart, IsRun, Part, layout_in}
use Rattle.draid_shard.specs.Rows.{IsReadOn, IsRowsOf, IsSilent, arm_no}
use Rattle.draid_slots.specs.States.{HasSlots, name_of}
use Rattle.draid_shard.specs.declared.places.ColumnRows.{ColumnRows}
use Rattle.draid_shard.proofs.Answering.{answers_is, leaf_at_is, listed, order_is}
use Rattle.draid_shard.proofs.Homes.{has_column, lays}

-- ---- the first arm that passes a test
find_none : (p : ArmName → Bool) (test : ℕ → Bool) (xs : List Arm) → ((k : ℕ) (a : Arm) → slice_get xs k ≡ Some a → p (name_of a) ≡ test k) → IsNone test (length xs) → find p (map name_of xs) ≡ None
find_none p test [] same none = refl
find_none p test (x ∷ xs) same none =
    ap (λ b. if b then Some (name_of x) else find p (map name_of xs)) (same zero x refl ∙ none zero (omega arith))
    ∙ find_none p (λ k. test (suc k)) xs (λ k a at. same (suc k) a at) (λ k less. none (suc k) (omega (arith, less)))

find_first : (p : ArmName → Bool) (test : ℕ → Bool) (xs : List Arm) (k : ℕ) → ((k : ℕ) (a : Arm) → slice_get xs k ≡ Some a → p (name_of a) ≡ test k) → k < length xs → test k ≡ true
    → ((j : ℕ) → j < k → test j ≡ false) → (a : Arm) × (slice_get xs k ≡ Some a) × (find p (map name_of xs) ≡ Some (name_of a))
find_first p test [] k same less passes first = absurd (omega (arith, less))
find_first p test (x ∷ xs) zero same less passes first = (x, refl, ap (λ b. if b then Some (name_of x) else find p (map name_of xs)) (same zero x refl ∙ passes))
find_first p test (x ∷ xs) (suc k) same less passes first =
    let z = find_first p (λ j. test (suc j)) xs k (λ j a at. same (suc j) a at) (omega (arith, less)) passes (λ j lower. first (suc j) (omega (arith, lower))) in
    (z.0, z.1, ap (λ b. if b then Some (name_of x) else find p (map name_of xs)) (same zero x refl ∙ first zero (omega arith)) ∙ z.2)

module _ (part : Part) (is : IsPart part) (slots : SlotTable) (of : IsOf slots part.geometry part.perms part.number) (w : machine.State) (reached : IsReached (layout_in part) w) (has : HasSlots slots w.core)
    (pointer : Pointer) (run : IsRun part.geometry pointer.first pointer.stripes) where
  abbrev block : Held
  block = held_at (staged Live pointer)

  module _ (c : ℕ) (column : c < part.geometry.g) (rows : ColumnRows) (rows_are : IsRowsOf part pointer c rows) where
    answers : (k : ℕ) (a : Arm) → slice_get (arms_of slots rows.slot) k ≡ Some a → arms.answers (layout_in part) w.core (name_of a) pointer.first ≡ answers_in slots rows.slot rows.slice k
    answers k a at = answers_is part is slots of w reached has pointer run c column rows rows_are k a at

    pub clean : (k : ℕ) (a : Arm) → slice_get (arms_of slots rows.slot) k ≡ Some a
        → (arms.answers (layout_in part) w.core (name_of a) pointer.first && is_clean w.core pointer.birth (name_of a)) ≡ is_clean_in slots rows.slot rows.slice rows.birth k
    clean k a at =
        ap₂ (λ x o. x && not (logged o pointer.birth)) (answers k a at) (has.arms (arm_no rows k) a at)
        ∙ ap (λ birth. answers_in slots rows.slot rows.slice k && not (is_logged slots (arm_no rows k) birth)) (sym rows_are.birth_is)

    -- what is found in the order of the slot
    order : w.core.order ((layout_in part).slot_of pointer.first c) ≡ map name_of (arms_of slots rows.slot)
    order = order_is part is slots of w reached has pointer run c column rows rows_are

    abbrev is_good : ArmName → Bool
    is_good n = arms.answers (layout_in part) w.core n pointer.first && is_clean w.core pointer.birth n

    abbrev is_there : ArmName → Bool
    is_there n = arms.answers (layout_in part) w.core n pointer.first

    pub reading_found : (leaf : ℕ) → IsReadOn slots rows leaf → (n : ArmName) × (arms.reading (layout_in part) w.core block c ≡ Some n) × (leaf_at (layout_in part) w.core.order n pointer.first ≡ Some leaf)
        × (has_name (w.core.order ((layout_in part).slot_of pointer.first c)) n ≡ true)
    reading_found leaf r = by r.read.clean refl
      where
        lies : (a : Arm) → arm_at slots (arm_no rows r.read.arm) ≡ Some a → leaf_at (layout_in part) w.core.order (name_of a) pointer.first ≡ Some leaf
        lies a at = leaf_at_is part is slots of w reached has pointer run c column rows rows_are r.read.arm a at ∙ r.on

        in_order : (a : Arm) → arm_at slots (arm_no rows r.read.arm) ≡ Some a → has_name (w.core.order ((layout_in part).slot_of pointer.first c)) (name_of a) ≡ true
        in_order a at = listed part is slots of w reached has pointer run c column rows rows_are r.read.arm (name_of a) (ap (option_map name_of) at)

        by : (b : Bool) → r.read.clean ≡ b → (n : ArmName) × (arms.reading (layout_in part) w.core block c ≡ Some n) × (leaf_at (layout_in part) w.core.order n pointer.first ≡ Some leaf)
            × (has_name (w.core.order ((layout_in part).slot_of pointer.first c)) n ≡ true)
        by true e =
            let first = r.is.clean_arm e in
            let z = find_first is_good (is_clean_in slots rows.slot rows.slice rows.birth) (arms_of slots rows.slot) r.read.arm clean first.within first.passes first.first in
            (name_of z.0, ap (λ ns. else_some (find is_good ns) (find is_there ns)) order ∙ ap (λ o. else_some o (find is_there (map name_of (arms_of slots rows.slot)))) z.2, lies z.0 z.1, in_order z.0 z.1)
        by false e =
            let first = r.is.doubtful e in
            let none = find_none is_good (is_clean_in slots rows.slot rows.slice rows.birth) (arms_of slots rows.slot) clean (r.is.no_clean e) in
            let z = find_first is_there (answers_in slots rows.slot rows.slice) (arms_of slots rows.slot) r.read.arm answers first.within first.passes first.first in
            (name_of z.0, ap (λ ns. else_some (find is_good ns) (find is_there ns)) order ∙ ap₂ else_some none z.2, lies z.0 z.1, in_order z.0 z.1)

    pub reading_none : IsSilent slots rows → arms.reading (layout_in part) w.core block c ≡ None
    reading_none silent =
        ap (λ ns. else_some (find is_good ns) (find is_there ns)) order
        ∙ ap₂ else_some
        (find_none is_good (is_clean_in slots rows.slot rows.slice rows.birth) (arms_of slots rows.slot) clean (λ k less. ap (λ b. b && not (is_logged slots (arm_no rows k) rows.birth)) (silent k less)))
        (find_none is_there (answers_in slots rows.slot rows.slice) (arms_of slots rows.slot) answers silent)

  -- ---- the leaves of a block's columns are apart
  owned : Owned (layout_in part) w
  owned = every_segment (layout_in part) w (lays part is) reached

  abbrev first : ℕ → Option ℕ
  first = arms.first_spares w.core.order

  -- a slot's first spare is one of its arms
  first_listed : (ns : List ArmName) (t : ℕ) → arms.first_spare ns ≡ Some t → has_name ns (Spare t) ≡ true
  first_listed [] t e = absurd (cc)
  first_listed (Leaf m ∷ ns) t e = true_right (name_eq (Leaf m) (Spare t)) (has_name ns (Spare t)) (first_listed ns t e)
  first_listed (Spare u ∷ ns) t e =
      true_left (name_eq (Spare u) (Spare t)) (has_name ns (Spare t)) (subst (λ n. name_eq (Spare n) (Spare t) ≡ true) (sym (some_same (Some u) u t refl e)) (name_refl (Spare t)))

  first_leaf_listed : (ns : List ArmName) (m : ℕ) → arms.first_leaf ns ≡ Some m → has_name ns (Leaf m) ≡ true
  first_leaf_listed [] m e = absurd (cc)
  first_leaf_listed (Leaf u ∷ ns) m e =
      true_left (name_eq (Leaf u) (Leaf m)) (has_name ns (Leaf m)) (subst (λ n. name_eq (Leaf n) (Leaf m) ≡ true) (sym (some_same (Some u) u m refl e)) (name_refl (Leaf m)))
  first_leaf_listed (Spare t ∷ ns) m e = true_right (name_eq (Spare t) (Leaf m)) (has_name ns (Leaf m)) (first_leaf_listed ns m e)

  spare_fits : (slot t : ℕ) → has_name (w.core.order slot) (Spare t) ≡ true → t < part.geometry.spec.spares
  spare_fits slot t at = let z = owned.listed.data_of slot (Spare t) at in (owned.spares t z.0 z.1).0

  are_spares : AreSpares (children_of part.perms) part.geometry.spec.spares first
  are_spares slot t less e = spare_fits slot t (first_listed (w.core.order slot) t e)

  of_one : AreOfOne (children_of part.perms) first first
  of_one a b t x y e f = owned.listed.one a b (Spare t) (first_listed (w.core.order a) t e) (first_listed (w.core.order b) t f)

  is_arm : (slot t : ℕ) → slot < children_of part.perms → has_name (w.core.order slot) (Spare t) ≡ true → IsArm (children_of part.perms) part.geometry.spec.spares first slot t
  is_arm slot t less at = record {
    slot_is = less;
    spare_is = spare_fits slot t at;
    only = λ other there e. owned.listed.one other slot (Spare t) (first_listed (w.core.order other) t e) at;
  }

  abbrev slot_at : ℕ → ℕ
  slot_at c = (layout_in part).slot_of pointer.first c

  abbrev slice : ℕ
  slice = slice_in part.geometry part.number pointer.first

  in_children : (c : ℕ) → c < part.geometry.g → slot_at c < children_of part.perms
  in_children c less = let low = (lays part is).slots pointer.first c less in let same = is.layout.perms_are.children in omega (arith, low, same)

  home_of : (c t : ℕ) → (layout_in part).home first t pointer.first ≡ holder_in part.perms part.geometry.spec.spares slice first (slot_at c) t
  home_of c t = sym (holder_is part.perms part.geometry.spec.spares slice (slot_at c) t first (has_column part is pointer.first c))

  -- the slot on whose leaf a listed arm lies
  lies_in : (n : ArmName) (leaf : ℕ) → leaf_at (layout_in part) w.core.order n pointer.first ≡ Some leaf → (c : ℕ) → has_name (w.core.order (slot_at c)) n ≡ true
      → (has_name (w.core.order (slot_at c)) (Leaf leaf) ≡ true) ⊎ ((t : ℕ) × (has_name (w.core.order (slot_at c)) (Spare t) ≡ true) × (has_name (w.core.order ((layout_in part).home first t pointer.first)) (Leaf leaf) ≡ true))
  lies_in (Leaf m) leaf e c at = inl (subst (λ l. has_name (w.core.order (slot_at c)) (Leaf l) ≡ true) (some_same (Some m) m leaf refl e) at)
  lies_in (Spare t) leaf e c at =
      let there = below t part.geometry.spec.spares (spare_fits (slot_at c) t at) in
      let on = sym (ap (λ b. if b then arms.first_leaf (w.core.order ((layout_in part).home first t pointer.first)) else None) there) ∙ e in
      inr (t, at, first_leaf_listed (w.core.order ((layout_in part).home first t pointer.first)) leaf on)

  one_column : (c d : ℕ) → c < part.geometry.g → d < part.geometry.g → slot_at c ≡ slot_at d → c ≡ d
  one_column c d less other same = distinct.columns_apart part.geometry part.perms (pool_stripe part.geometry part.number pointer.first) c d is.layout less other same

  no_home : (c d t : ℕ) → has_name (w.core.order (slot_at c)) (Spare t) ≡ true → (layout_in part).home first t pointer.first ≡ slot_at d → ⊥
  no_home c d t at same =
      holder_no_column part.perms part.geometry.spec.spares slice (slot_at c) t (slot_at d) first are_spares (spare_fits (slot_at c) t at) (has_column part is pointer.first d) (sym (home_of c t) ∙ same)

  pub columns_apart : (c d leaf : ℕ) (m n : ArmName) → c < part.geometry.g → d < part.geometry.g → has_name (w.core.order (slot_at c)) m ≡ true → has_name (w.core.order (slot_at d)) n ≡ true
      → leaf_at (layout_in part) w.core.order m pointer.first ≡ Some leaf → leaf_at (layout_in part) w.core.order n pointer.first ≡ Some leaf → c ≡ d
  columns_apart c d leaf m n less other at there on over = by (lies_in m leaf on c at) (lies_in n leaf over d there)
    where
      by : (has_name (w.core.order (slot_at c)) (Leaf leaf) ≡ true) ⊎ ((t : ℕ) × (has_name (w.core.order (slot_at c)) (Spare t) ≡ true) × (has_name (w.core.order ((layout_in part).home first t pointer.first)) (Leaf leaf) ≡ true))
          → (has_name (w.core.order (slot_at d)) (Leaf leaf) ≡ true) ⊎ ((t : ℕ) × (has_name (w.core.order (slot_at d)) (Spare t) ≡ true) × (has_name (w.core.order ((layout_in part).home first t pointer.first)) (Leaf leaf) ≡ true)) → c ≡ d
      by (inl x) (inl y) = one_column c d less other (owned.listed.one (slot_at c) (slot_at d) (Leaf leaf) x y)
      by (inl x) (inr y) = absurd (no_home d c y.0 y.1 (owned.listed.one ((layout_in part).home first y.0 pointer.first) (slot_at c) (Leaf leaf) y.2 x))
      by (inr x) (inl y) = absurd (no_home c d x.0 x.1 (owned.listed.one ((layout_in part).home first x.0 pointer.first) (slot_at d) (Leaf leaf) x.2 y))
      by (inr x) (inr y) =
          let homes = owned.listed.one ((layout_in part).home first x.0 pointer.first) ((layout_in part).home first y.0 pointer.first) (Leaf leaf) x.2 y.2 in
          let same : x.0 ≡ y.0 = holders_same part.perms part.geometry.spec.spares slice (slot_at c) (slot_at d) x.0 y.0 first first are_spares are_spares of_one
          (has_column part is pointer.first c) (is_arm (slot_at c) x.0 (in_children c less) x.1) (has_column part is pointer.first d) (is_arm (slot_at d) y.0 (in_children d other) y.1)
          (sym (home_of c x.0) ∙ homes ∙ home_of d y.0) in
          one_column c d less other (owned.listed.one (slot_at c) (slot_at d) (Spare x.0) x.1 (subst (λ t. has_name (w.core.order (slot_at d)) (Spare t) ≡ true) (sym same) y.1))

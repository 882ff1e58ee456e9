-- The arms of the slots answer, and keep their sectors, as in a state that has them.
use Rattle.std.proofs.Common.{◌≡◌, ◌==◌, ◌+◌, ◌*◌, ◌<◌, ◌&&◌, not, ◌∙◌, ℕ, zero, suc, true, false, nat_lt, List, [], ◌∷◌, Option, Some, None, arith, refl, sym, ap, subst, inl, inr, map, length, slice_get, if◌then◌else◌}
use Rattle.std.specs.Prelude.{option_map}
use Rattle.draid_names.specs.declared.arm.Arm.{Arm}
use Rattle.draid_names.specs.declared.arm.ArmAt.{ArmAt}
use Rattle.draid_names.specs.declared.arm.ArmKind.{ArmKind}
use Rattle.draid_names.specs.declared.arm.ArmKind.TheVariants as kind
use Rattle.draid_names.specs.declared.pointer.Pointer.{Pointer}
use Rattle.draid_chain.specs.Chain as chain
use Rattle.draid_chain.proofs.Holders.{holder_is}
use Rattle.draid_layouts.specs.Layout.{slice_in}
use Rattle.draid_machine.specs.declared.names.ArmName.{ArmName}
use Rattle.draid_machine.specs.declared.names.ArmName.TheVariants.{Leaf, Spare}
use Rattle.draid_machine.specs.declared.names.Segment.{Segment}
use Rattle.draid_machine.specs.declared.names.Stage.{Stage}
use Rattle.draid_machine.specs.Arms as arms
use Rattle.draid_machine.specs.Arms.{leaf_answers, leaf_at, lies, online, is_here, passes}
use Rattle.draid_machine.specs.Claims.{is_at_held, is_on}
use Rattle.draid_machine.specs.Created.{IsReached}
use Rattle.draid_machine.specs.Fitting.{Fitting, IsOnce}
use Rattle.draid_machine.specs.Images.{LiesAt, Owned}
use Rattle.draid_machine.specs.Names.{has_name, name_eq, named}
use Rattle.draid_machine.specs.State as machine
use Rattle.draid_machine.proofs.Fitted.{every_fit}
use Rattle.draid_machine.proofs.Losing.{every_segment}
use Rattle.draid_machine.proofs.Places.{every_place}
use Rattle.draid_machine.proofs.Small.{absurd_test, below, either_true, equal, name_refl, name_true, some_same, true_four, true_left, true_right}
use Rattle.draid_entries.specs.Maps.{held_at, key_of, staged}
use Rattle.draid_slots.specs.Changes.{IsOf}
use Rattle.draid_slots.specs.Reading as reading
use Rattle.draid_slots.specs.Reading.{holder, holder_of, is_online, pool_slice, spare_slot}
use Rattle.draid_spec.specs.Geometry.{slice_at}
use Rattle.draid_slots.specs.Table as table
use Rattle.draid_slots.specs.Table.{SlotTable, arm_at, arms_of, is_leaf_kind, is_spare_kind}
use Rattle.draid_shard.specs.Part.{IsPart, IsRun, Part, layout_in}
use Rattle.draid_shard.specs.Rows.{AreApart, IsRowsOf, answers_on, arm_no, leaf_on, name_on}
use Rattle.draid_slots.specs.States.{HasSlots, arm_in, name_of}
use Rattle.draid_shard.specs.declared.places.ColumnRows.{ColumnRows}
use Rattle.draid_shard.proofs.Holders.{holder_there}
use Rattle.draid_shard.proofs.Homes.{has_column, lays, same_group, slice_follows}

-- ---- lists of arms, and of their names
pub first_leaf_is : (xs : List Arm) → arms.first_leaf (map name_of xs) ≡ option_map (λ (a : Arm). a.number) (reading.first_leaf xs)
first_leaf_is [] = refl
first_leaf_is (a ∷ xs) = by a.kind refl (first_leaf_is xs) where
  by : (k : ArmKind) → a.kind ≡ k → arms.first_leaf (map name_of xs) ≡ option_map (λ (a : Arm). a.number) (reading.first_leaf xs)
      → arms.first_leaf (named a.kind a.number ∷ map name_of xs) ≡ option_map (λ (a : Arm). a.number) (if is_leaf_kind a.kind then Some a else reading.first_leaf xs)
  by kind.Leaf e rest = ap (λ k. arms.first_leaf (named k a.number ∷ map name_of xs)) e ∙ sym (ap (λ k. option_map (λ (a : Arm). a.number) (if is_leaf_kind k then Some a else reading.first_leaf xs)) e)
  by kind.Spare e rest = ap (λ k. arms.first_leaf (named k a.number ∷ map name_of xs)) e ∙ rest ∙ sym (ap (λ k. option_map (λ (a : Arm). a.number) (if is_leaf_kind k then Some a else reading.first_leaf xs)) e)

first_spare_is : (xs : List Arm) → arms.first_spare (map name_of xs) ≡ table.first_spare xs
first_spare_is [] = refl
first_spare_is (a ∷ xs) = by a.kind refl (first_spare_is xs) where
  by : (k : ArmKind) → a.kind ≡ k → arms.first_spare (map name_of xs) ≡ table.first_spare xs
      → arms.first_spare (named a.kind a.number ∷ map name_of xs) ≡ (if is_spare_kind a.kind then Some a.number else table.first_spare xs)
  by kind.Leaf e rest = ap (λ k. arms.first_spare (named k a.number ∷ map name_of xs)) e ∙ rest ∙ sym (ap (λ k. if is_spare_kind k then Some a.number else table.first_spare xs) e)
  by kind.Spare e rest = ap (λ k. arms.first_spare (named k a.number ∷ map name_of xs)) e ∙ sym (ap (λ k. if is_spare_kind k then Some a.number else table.first_spare xs) e)

pub name_found : (xs : List Arm) (n : ArmName) → has_name (map name_of xs) n ≡ true → (k : ℕ) × (k < length xs) × (option_map name_of (slice_get xs k) ≡ Some n)
name_found [] n has = absurd_test false has refl
name_found (a ∷ xs) n has = elim (either_true (name_eq (name_of a) n) (has_name (map name_of xs) n) has) [
  | inl here ↦ (zero, omega arith, ap Some (name_true (name_of a) n here))
  | inr behind ↦ (let z = name_found xs n behind in (suc z.0, (let less = z.1 in omega (arith, less)), z.2))
]

pub name_listed : (xs : List Arm) (k : ℕ) (n : ArmName) → option_map name_of (slice_get xs k) ≡ Some n → has_name (map name_of xs) n ≡ true
name_listed [] k n is = absurd (cc)
name_listed (a ∷ xs) zero n is = true_left (name_eq (name_of a) n) (has_name (map name_of xs) n) (subst (λ m. name_eq m n ≡ true) (sym (some_same (Some (name_of a)) (name_of a) n refl is)) (name_refl n))
name_listed (a ∷ xs) (suc k) n is = true_right (name_eq (name_of a) n) (has_name (map name_of xs) n) (name_listed xs k n is)

pub once_apart : (xs : List Arm) (j k : ℕ) (n : ArmName) → IsOnce (map name_of xs) → option_map name_of (slice_get xs j) ≡ Some n → option_map name_of (slice_get xs k) ≡ Some n → j ≡ k
once_apart [] j k n once a b = absurd (cc)
once_apart (x ∷ xs) zero zero n once a b = refl
once_apart (x ∷ xs) zero (suc k) n once a b =
    absurd_test (has_name (map name_of xs) (name_of x)) (subst (λ m. has_name (map name_of xs) m ≡ true) (sym (some_same (Some (name_of x)) (name_of x) n refl a)) (name_listed xs k n b)) once.0
once_apart (x ∷ xs) (suc j) zero n once a b =
    absurd_test (has_name (map name_of xs) (name_of x)) (subst (λ m. has_name (map name_of xs) m ≡ true) (sym (some_same (Some (name_of x)) (name_of x) n refl b)) (name_listed xs j n a)) once.0
once_apart (x ∷ xs) (suc j) (suc k) n once a b = ap suc (once_apart xs j k n once.1 a b)

-- an arm that has a name, or keeps rows on a leaf, is there
pub named_arm : (slots : SlotTable) (rows : ColumnRows) (k : ℕ) (n : ArmName) → name_on slots rows k ≡ Some n → (a : Arm) × (arm_at slots (arm_no rows k) ≡ Some a) × (name_of a ≡ n)
named_arm slots rows k n is = by (arm_at slots (arm_no rows k)) refl is where
  by : (o : Option Arm) → arm_at slots (arm_no rows k) ≡ o → option_map name_of o ≡ Some n → (a : Arm) × (arm_at slots (arm_no rows k) ≡ Some a) × (name_of a ≡ n)
  by None there e = absurd (cc)
  by (Some a) there e = (a, there, some_same (Some (name_of a)) (name_of a) n refl e)

pub kept_arm : (slots : SlotTable) (rows : ColumnRows) (k leaf : ℕ) → leaf_on slots rows k ≡ Some leaf → (a : Arm) × (arm_at slots (arm_no rows k) ≡ Some a)
kept_arm slots rows k leaf is = by (arm_at slots (arm_no rows k)) refl is where
  by : (o : Option Arm) → arm_at slots (arm_no rows k) ≡ o → option_map (λ (a : Arm). a.number) (holder_of slots rows.slot rows.slice o) ≡ Some leaf → (a : Arm) × (arm_at slots (arm_no rows k) ≡ Some a)
  by None there e = absurd (cc)
  by (Some a) there e = (a, there)

module _ (part : Part) (is : IsPart part) (slots : SlotTable) (of : IsOf slots part.geometry part.perms part.number) (w : machine.State) (reached : IsReached (layout_in part) w) (has : HasSlots slots w.core) where
  owned : Owned (layout_in part) w
  owned = every_segment (layout_in part) w (lays part is) reached

  fits : Fitting (layout_in part) w
  fits = every_fit (layout_in part) w (lays part is) reached

  pub first_spares_are : arms.first_spares w.core.order ≡ table.first_spares slots
  first_spares_are = λ i slot. (ap arms.first_spare (has.order slot) ∙ first_spare_is (arms_of slots slot)) i

  pub spare_low : (at : ArmAt) (a : Arm) → arm_at slots at ≡ Some a → a.kind ≡ kind.Spare → a.number < part.geometry.spec.spares
  spare_low at a there e =
      (owned.spares a.number (arm_in slots at a) (subst (λ k. w.core.arm (named k a.number) ≡ Some (arm_in slots at a)) e (has.arms at a there))).0

  -- a leaf that is an arm answers just where it isn't offline
  leaf_is_online : (at : ArmAt) (a : Arm) → arm_at slots at ≡ Some a → a.kind ≡ kind.Leaf → leaf_answers w.core a.number ≡ not a.offline
  leaf_is_online at a there e =
      ap (λ o. is_here o && online o) (subst (λ k. w.core.arm (named k a.number) ≡ Some (arm_in slots at a)) e (has.arms at a there))

  module _ (pointer : Pointer) (run : IsRun part.geometry pointer.first pointer.stripes) (c : ℕ) (column : c < part.geometry.g) (rows : ColumnRows) (rows_are : IsRowsOf part pointer c rows) where
    slice_path : slice_in part.geometry part.number pointer.first ≡ pool_slice slots rows.slice
    slice_path =
        let local : slice_at part.geometry ((layout_in part).sector_of pointer.first c) ≡ rows.slice = ap (slice_at part.geometry) (sym rows_are.first_is) ∙ sym rows_are.slice_is in
        sym (slice_follows part is pointer.first c column) ∙ (λ i. sym of.metaslab_is i * (sym of.geometry_is i).props.slices + local i)

    -- a spare's home is the slot to which its chain leads
    home_is : (t : ℕ) → (layout_in part).home (arms.first_spares w.core.order) t pointer.first ≡ spare_slot slots rows.slot t rows.slice
    home_is t =
        sym (holder_is part.perms part.geometry.spec.spares (slice_in part.geometry part.number pointer.first) ((layout_in part).slot_of pointer.first c) t (arms.first_spares w.core.order) (has_column part is pointer.first c))
        ∙ (λ i. chain.holder_in (sym of.perms_are i) (sym of.geometry_is i).spec.spares (slice_path i) (first_spares_are i) (sym rows_are.slot_is i) t)

    pub leaf_at_is : (k : ℕ) (a : Arm) → arm_at slots (arm_no rows k) ≡ Some a → leaf_at (layout_in part) w.core.order (name_of a) pointer.first ≡ leaf_on slots rows k
    leaf_at_is k a there = by a.kind refl ∙ sym (ap (λ o. option_map (λ (a : Arm). a.number) (holder_of slots rows.slot rows.slice o)) there)
      where
        number : Option Arm → Option ℕ
        number o = option_map (λ (a : Arm). a.number) o

        by : (q : ArmKind) → a.kind ≡ q → leaf_at (layout_in part) w.core.order (named a.kind a.number) pointer.first
            ≡ option_map (λ (a : Arm). a.number) (if is_leaf_kind a.kind then Some a else reading.first_leaf (arms_of slots (spare_slot slots rows.slot a.number rows.slice)))
        by kind.Leaf e =
            ap (λ q. leaf_at (layout_in part) w.core.order (named q a.number) pointer.first) e
            ∙ sym (ap (λ q. option_map (λ (a : Arm). a.number) (if is_leaf_kind q then Some a else reading.first_leaf (arms_of slots (spare_slot slots rows.slot a.number rows.slice)))) e)
        by kind.Spare e =
            ap (λ q. leaf_at (layout_in part) w.core.order (named q a.number) pointer.first) e
            ∙ ap (λ b. if b then arms.first_leaf (w.core.order ((layout_in part).home (arms.first_spares w.core.order) a.number pointer.first)) else None)
            (below a.number part.geometry.spec.spares (spare_low (arm_no rows k) a there e))
            ∙ ap (λ s. arms.first_leaf (w.core.order s)) (home_is a.number)
            ∙ ap arms.first_leaf (has.order (spare_slot slots rows.slot a.number rows.slice))
            ∙ first_leaf_is (arms_of slots (spare_slot slots rows.slot a.number rows.slice))
            ∙ sym (ap (λ q. option_map (λ (a : Arm). a.number) (if is_leaf_kind q then Some a else reading.first_leaf (arms_of slots (spare_slot slots rows.slot a.number rows.slice)))) e)

    pub answers_is : (k : ℕ) (a : Arm) → arm_at slots (arm_no rows k) ≡ Some a → arms.answers (layout_in part) w.core (name_of a) pointer.first ≡ answers_on slots rows k
    answers_is k a there = ap (λ o. passes o (leaf_answers w.core)) (leaf_at_is k a there) ∙ by (holder slots (arm_no rows k) rows.slice) refl
      where
        by : (o : Option Arm) → holder slots (arm_no rows k) rows.slice ≡ o → passes (option_map (λ (a : Arm). a.number) o) (leaf_answers w.core) ≡ is_online o
        by None at = refl
        by (Some leaf) at = let it = holder_there slots (arm_no rows k) rows.slice leaf at in leaf_is_online it.at leaf it.there it.kind

    -- a row's leaf is that of the first
    pub row_leaf : (n : ArmName) (row : ℕ) → row < pointer.stripes → leaf_at (layout_in part) w.core.order n (pointer.first + row) ≡ leaf_at (layout_in part) w.core.order n pointer.first
    row_leaf (Leaf m) row less = refl
    row_leaf (Spare t) row less =
        ap (λ s. if nat_lt t part.geometry.spec.spares then arms.first_leaf (w.core.order s) else None)
        ((lays part is).steady_home (arms.first_spares w.core.order) (pointer.first + row) pointer.first t (same_group part is pointer.first pointer.stripes row run less))

    pub order_is : w.core.order ((layout_in part).slot_of pointer.first c) ≡ map name_of (arms_of slots rows.slot)
    order_is = ap w.core.order (sym rows_are.slot_is) ∙ has.order rows.slot

    pub listed : (k : ℕ) (n : ArmName) → name_on slots rows k ≡ Some n → has_name (w.core.order ((layout_in part).slot_of pointer.first c)) n ≡ true
    listed k n at = subst (λ ns. has_name ns n ≡ true) (sym order_is) (name_listed (arms_of slots rows.slot) k n at)

    pub listed_arm : (n : ArmName) → has_name (w.core.order ((layout_in part).slot_of pointer.first c)) n ≡ true → (k : ℕ) × (k < length (arms_of slots rows.slot)) × (name_on slots rows k ≡ Some n)
    listed_arm n at = name_found (arms_of slots rows.slot) n (subst (λ ns. has_name ns n ≡ true) order_is at)

    names_apart : (j k : ℕ) (n : ArmName) → name_on slots rows j ≡ Some n → name_on slots rows k ≡ Some n → j ≡ k
    names_apart j k n a b = once_apart (arms_of slots rows.slot) j k n (subst IsOnce (has.order rows.slot) (fits.core.order.once rows.slot)) a b

    -- a segment of the block's column on an arm, in its first row
    module _ (stage : Stage) (held : w.core.held (key_of pointer) ≡ Some (held_at (staged stage pointer))) where
      abbrev segment : ArmName → ℕ → ℕ → Segment
      segment n leaf row = record { key = key_of pointer; column = c; arm = n; leaf = leaf; row = row }

      pub on_arm : (k leaf row : ℕ) (a : Arm) → arm_at slots (arm_no rows k) ≡ Some a → leaf_on slots rows k ≡ Some leaf → row < pointer.stripes
          → is_on (layout_in part) w.core.order (segment (name_of a) leaf row) (held_at (staged stage pointer)) ≡ true
      on_arm k leaf row a there on less =
          let at : leaf_at (layout_in part) w.core.order (name_of a) (pointer.first + row) ≡ Some leaf = row_leaf (name_of a) row less ∙ leaf_at_is k a there ∙ on in
          true_four (has_name (w.core.order ((layout_in part).slot_of pointer.first c)) (name_of a)) (nat_lt c part.geometry.g) (nat_lt row pointer.stripes)
          (lies (layout_in part) w.core.order (name_of a) (pointer.first + row) leaf)
          (listed k (name_of a) (ap (option_map name_of) there)) (below c part.geometry.g column) (below row pointer.stripes less)
          (subst (λ o. passes o (λ m. m == leaf) ≡ true) (sym at) (equal leaf leaf refl))

      pub apart : AreApart slots rows
      apart = record {
        spares = λ k a there e. (let low = spare_low (arm_no rows k) a there e in let most = is.layout.geometry_is.spec.most_spares in omega (arith, low, most));
        names = names_apart;
        leaves = λ j k leaf a b. leaves j k leaf (kept_arm slots rows j leaf a) (kept_arm slots rows k leaf b) a b;
      } where
        there_at : (k leaf : ℕ) (a : Arm) → arm_at slots (arm_no rows k) ≡ Some a → leaf_on slots rows k ≡ Some leaf
            → is_at_held (layout_in part) w.core.order (segment (name_of a) leaf 0) (w.core.held (key_of pointer)) ≡ true
        there_at k leaf a there on =
            subst (λ o. is_at_held (layout_in part) w.core.order (segment (name_of a) leaf 0) o ≡ true) (sym held) (on_arm k leaf 0 a there on (let some = run.some in omega (arith, some)))

        lies_at : (n : ArmName) (leaf : ℕ) → LiesAt (layout_in part) w.core (segment n leaf 0) leaf ((layout_in part).sector_of (pointer.first + 0) c)
        lies_at n leaf = record { h = held_at (staged stage pointer); held = held; leaf_is = refl; sector_is = refl }

        leaves : (j k leaf : ℕ) → (a : Arm) × (arm_at slots (arm_no rows j) ≡ Some a) → (b : Arm) × (arm_at slots (arm_no rows k) ≡ Some b) → leaf_on slots rows j ≡ Some leaf → leaf_on slots rows k ≡ Some leaf → j ≡ k
        leaves j k leaf x y on other =
            let one : segment (name_of x.0) leaf 0 ≡ segment (name_of y.0) leaf 0
            = every_place (layout_in part) w (segment (name_of x.0) leaf 0) (segment (name_of y.0) leaf 0) leaf ((layout_in part).sector_of (pointer.first + 0) c) (lays part is) reached
            (inr (there_at j leaf x.0 x.1 on)) (inr (there_at k leaf y.0 y.1 other)) (lies_at (name_of x.0) leaf) (lies_at (name_of y.0) leaf) in
            names_apart j k (name_of y.0) (ap (option_map name_of) x.1 ∙ ap (λ (s : Segment). Some s.arm) one) (ap (option_map name_of) y.1)

-- The arms that lie on leaves which pass a test.
use Rattle.std.proofs.Common.{◌≡◌, ◌==◌, ◌<◌, ◌&&◌, ◌∙◌, ℕ, Bool, true, List, Option, Some, None, arith, refl, sym, ap, subst, get_or, length, if◌then◌else◌}
use Rattle.std.proofs.lemmas.Option.{slice_get-get_or}
use Rattle.std.specs.Prelude.{IsSomeAnd, option_map}
use Rattle.draid_names.specs.declared.arm.Arm.{Arm}
use Rattle.draid_names.specs.declared.arm.ArmAt.{ArmAt}
use Rattle.draid_names.specs.declared.arm.ArmKind.{ArmKind}
use Rattle.draid_names.specs.declared.arm.ArmKind.TheVariants as kind
use Rattle.draid_perm.specs.Perms.{child_of}
use Rattle.draid_map.specs.Place.{IsLayout}
use Rattle.draid_chain.specs.Chain.{stands_before}
use Rattle.draid_chain.proofs.Holders.{stands_there}
use Rattle.draid_layouts.specs.Layout.{slice_in, slice_of}
use Rattle.draid_machine.specs.declared.names.ArmName.{ArmName}
use Rattle.draid_machine.specs.declared.names.ArmName.TheVariants.{Spare}
use Rattle.draid_machine.specs.Arms.{has_column, leaf_at, lies_on, passes}
use Rattle.draid_machine.specs.Created.{IsReached}
use Rattle.draid_machine.specs.Names.{any_below, has_name, named}
use Rattle.draid_machine.specs.State as machine
use Rattle.draid_machine.proofs.Small.{any_at, both_true, true_both}
use Rattle.draid_slots.specs.Reading.{holder, pool_slice}
use Rattle.draid_slots.specs.States.{HasSlots, name_of}
use Rattle.draid_slots.specs.Table.{SlotTable, arm_at, arms_of, is_leaf_kind}
use Rattle.draid_marks.specs.Layout.{layout_with}
use Rattle.draid_marks.specs.Silent.{has_column_in, leaf_in}
use Rattle.draid_marks.specs.Lying.{LiesAll, keeps_in, lies_there}
use Rattle.draid_marks.proofs.Answering.{leaf_at_is, name_listed, owned}
use Rattle.draid_marks.proofs.Places as places
use Rattle.draid_marks.proofs.Silence.{both_ways, column, column_low, found_below, slice_is, slot_is, stood, stripe, stripe_low}

-- ---- in a state
module _ (slots : SlotTable) (lay : IsLayout slots.geometry slots.perms) (w : machine.State) (reached : IsReached (layout_with slots) w) (has : HasSlots slots w.core) (bad : ℕ → Bool) where
  abbrev l : machine.Layout
  l = layout_with slots

  -- a leaf that passes keeps a slice for an arm
  abbrev kept : ArmAt → ℕ → Bool
  kept at slice = passes (leaf_in slots at slice) bad

  -- ---- a spare
  module _ (at : ArmAt) (a : Arm) (there : arm_at slots at ≡ Some a) (spare : a.kind ≡ kind.Spare) where
    abbrev name : ArmName
    name = Spare a.number

    -- in a slice it lies so where its slot has a column
    abbrev lies_in : ℕ → Bool
    lies_in slice = has_column_in slots at.slot slice && kept at slice

    -- and so at a stripe
    abbrev lies_at : ℕ → Bool
    lies_at x = has_column l w.core name x && passes (leaf_at l w.core.order name x) bad

    named_so : name_of a ≡ name
    named_so = ap (λ k. named k a.number) spare

    listed : has_name (w.core.order at.slot) name ≡ true
    listed = subst (λ ns. has_name ns name ≡ true) (sym (has.order at.slot)) (name_listed (arms_of slots at.slot) at.arm name (ap (option_map name_of) there ∙ ap Some named_so))

    -- where a column of its slot lies in the arm's slice
    own_row : (x c : ℕ) → l.slot_of x c ≡ at.slot → passes (leaf_at l w.core.order name x) bad ≡ kept at (slice_of slots.geometry x)
    own_row x c slot =
        ap (λ n. passes (leaf_at l w.core.order n x) bad) (sym named_so) ∙ ap (λ o. passes o bad) (leaf_at_is slots lay w reached has x c at a slot there)

    columns_stand : (x c : ℕ) → l.slot_of x c ≡ at.slot → has_column_in slots at.slot (slice_of slots.geometry x) ≡ true
    columns_stand x c slot =
        let h = places.has_column slots lay x c in
        let disks = lay.geometry_is.disks in
        let all = lay.perms_are.children in
        let before = h.before in
        ap (λ s. stands_before slots.perms s slots.geometry.ndisks at.slot) (sym (places.slice_follows slots lay x))
        ∙ stands_there slots.perms (slice_in slots.geometry slots.metaslab x) slots.geometry.ndisks h.position at.slot (omega (arith, disks, all, before)) (h.stands ∙ slot)

    there_then : lies_on l w.core bad name ≡ true → any_below slots.geometry.props.slices lies_in ≡ true
    there_then on =
        let f = found_below l.stripes lies_at on in
        let both = both_true (has_column l w.core name f.0) (passes (leaf_at l w.core.order name f.0) bad) f.2 in
        let c = found_below l.columns (λ c. has_name (w.core.order (l.slot_of f.0 c)) name) both.0 in
        let slot : l.slot_of f.0 c.0 ≡ at.slot = (owned slots lay w reached has).listed.one (l.slot_of f.0 c.0) at.slot name c.2 listed in
        any_at slots.geometry.props.slices lies_in (slice_of slots.geometry f.0) (places.slice_below slots lay f.0 f.1)
        (true_both (has_column_in slots at.slot (slice_of slots.geometry f.0)) (kept at (slice_of slots.geometry f.0)) (columns_stand f.0 c.0 slot) (sym (own_row f.0 c.0 slot) ∙ both.1))

    then_there : any_below slots.geometry.props.slices lies_in ≡ true → lies_on l w.core bad name ≡ true
    then_there any =
        let f = found_below slots.geometry.props.slices lies_in any in
        let both = both_true (has_column_in slots at.slot f.0) (kept at f.0) f.2 in
        let p = stood slots.perms (pool_slice slots f.0) slots.geometry.ndisks at.slot both.0 in
        by f.0 p.0 f.1 p.1 p.2 both.1
      where
        by : (slice position : ℕ) (inside : slice < slots.geometry.props.slices) (low : position < slots.geometry.ndisks) → child_of slots.perms (pool_slice slots slice) position ≡ at.slot
            → kept at slice ≡ true → lies_on l w.core bad name ≡ true
        by slice position inside low child silent =
            let x : ℕ = stripe slots lay slice position inside low in
            let c : ℕ = column slots lay slice position inside low in
            let slot : l.slot_of x c ≡ at.slot = slot_is slots lay slice position inside low ∙ child in
            any_at l.stripes lies_at x (stripe_low slots lay slice position inside low)
            (true_both (has_column l w.core name x) (passes (leaf_at l w.core.order name x) bad)
            (any_at l.columns (λ c. has_name (w.core.order (l.slot_of x c)) name) c (column_low slots lay slice position inside low) (subst (λ s. has_name (w.core.order s) name ≡ true) (sym slot) listed))
            (own_row x c slot ∙ ap (kept at) (slice_is slots lay slice position inside low) ∙ silent))

    spare_lies : any_below slots.geometry.props.slices lies_in ≡ lies_on l w.core bad name
    spare_lies = both_ways (any_below slots.geometry.props.slices lies_in) (lies_on l w.core bad name) then_there there_then

  pub lies_is : (at : ArmAt) (a : Arm) → arm_at slots at ≡ Some a
      → (if is_leaf_kind a.kind then bad a.number else any_below slots.geometry.props.slices (λ slice. has_column_in slots at.slot slice && kept at slice)) ≡ lies_on l w.core bad (name_of a)
  lies_is at a there = by a.kind refl
    where
      by : (k : ArmKind) → a.kind ≡ k → (if is_leaf_kind a.kind then bad a.number else any_below slots.geometry.props.slices (λ slice. has_column_in slots at.slot slice && kept at slice))
          ≡ lies_on l w.core bad (named a.kind a.number)
      by kind.Leaf e =
          ap (λ k. if is_leaf_kind k then bad a.number else any_below slots.geometry.props.slices (λ slice. has_column_in slots at.slot slice && kept at slice)) e
          ∙ sym (ap (λ k. lies_on l w.core bad (named k a.number)) e)
      by kind.Spare e =
          ap (λ k. if is_leaf_kind k then bad a.number else any_below slots.geometry.props.slices (λ slice. has_column_in slots at.slot slice && kept at slice)) e
          ∙ spare_lies at a there e ∙ sym (ap (λ k. lies_on l w.core bad (named k a.number)) e)

-- ---- the code's tests

pub kept_by : (slots : SlotTable) (leaf : ℕ) (at : ArmAt) (slice other found : ℕ) → other ≡ slice → IsSomeAnd (holder slots at other) (λ (a : Arm). a.number ≡ found) → (found == leaf) ≡ keeps_in slots leaf at slice
kept_by slots leaf at slice other found same is = by (holder slots at slice) refl (subst (λ s. IsSomeAnd (holder slots at s) (λ (a : Arm). a.number ≡ found)) same is)
  where
    by : (o : Option Arm) → holder slots at slice ≡ o → IsSomeAnd o (λ (a : Arm). a.number ≡ found) → (found == leaf) ≡ keeps_in slots leaf at slice
    by None held h = absurd h
    by (Some a) held h = ap (λ n. n == leaf) (sym h) ∙ sym (ap (λ o. passes (option_map (λ (x : Arm). x.number) o) (λ m. m == leaf)) held)

module _ (slots : SlotTable) (leaf : ℕ) (at : ArmAt) (arms : List Arm) (none : Arm) (is : arms ≡ arms_of slots at.slot) (there : at.arm < length (arms_of slots at.slot)) where
  arm_is : arm_at slots at ≡ Some (get_or arms at.arm none)
  arm_is = slice_get-get_or (arms_of slots at.slot) at.arm none there ∙ ap (λ (list : List Arm). Some (get_or list at.arm none)) (sym is)

  abbrev spare_lies_so : Bool
  spare_lies_so = any_below slots.geometry.props.slices (λ slice. has_column_in slots at.slot slice && keeps_in slots leaf at slice)

  pub leaf_there : (get_or arms at.arm none).kind ≡ kind.Leaf → ((get_or arms at.arm none).number == leaf) ≡ lies_there slots leaf at (arm_at slots at)
  leaf_there k = sym (ap (lies_there slots leaf at) arm_is ∙ ap (λ k. if is_leaf_kind k then (get_or arms at.arm none).number == leaf else spare_lies_so) k)

  pub spare_there : (r : Bool) → (get_or arms at.arm none).kind ≡ kind.Spare → r ≡ spare_lies_so → r ≡ lies_there slots leaf at (arm_at slots at)
  spare_there r k same = same ∙ sym (ap (lies_there slots leaf at) arm_is ∙ ap (λ k. if is_leaf_kind k then (get_or arms at.arm none).number == leaf else spare_lies_so) k)

pub lies_all : (slots : SlotTable) (leaf : ℕ) (at : ArmAt) (r : Bool) → IsLayout slots.geometry slots.perms → r ≡ lies_there slots leaf at (arm_at slots at) → LiesAll slots at leaf r
lies_all slots leaf at r lay is w reached has a there = is ∙ ap (lies_there slots leaf at) there ∙ lies_is slots lay w reached has (λ m. m == leaf) at a there

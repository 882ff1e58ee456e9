-- The arms that are marked are those that lie on a silent leaf.
use Rattle.std.proofs.Common.{◌≡◌, ◌==◌, ◌+◌, ◌*◌, ◌/◌, ◌%◌, ◌<◌, ◌≤◌, ◌||◌, ◌&&◌, not, ◌∙◌, ℕ, zero, suc, Bool, true, false, List, [], ◌∷◌, Option, Some, None, arith, refl, sym, ap, subst, inl, inr, if◌then◌else◌}
use Rattle.std.specs.List.{list_any}
use Rattle.std.specs.Prelude.{IsSomeAnd, option_map}
use Rattle.std.proofs.Math.Nat.{mod-lt, mul-le-mul_right}
use Rattle.std.proofs.lemmas.Nat.{div-mul-add}
use Rattle.draid_names.specs.declared.arm.Arm.{Arm}
use Rattle.draid_names.specs.declared.arm.ArmAt.{ArmAt}
use Rattle.draid_names.specs.declared.arm.ArmKind.{ArmKind}
use Rattle.draid_names.specs.declared.arm.ArmKind.TheVariants as kind
use Rattle.draid_spec.specs.Geometry.{metaslab_sectors, metaslab_stripes, slice_at, slice_sectors}
use Rattle.draid_perm.specs.declared.perms.Perms.{Perms}
use Rattle.draid_perm.specs.Perms.{child_of}
use Rattle.draid_map.specs.declared.sectors.Place.{Place}
use Rattle.draid_map.specs.Place.{IsLayout, place_of}
use Rattle.draid_map.proofs.Apart.{group_of_position, has_some, spot_place}
use Rattle.draid_map.proofs.Radix.{high_digit, its_digits, three_below}
use Rattle.draid_chain.specs.Chain.{stands_before}
use Rattle.draid_chain.proofs.Holders.{stands_there}
use Rattle.draid_layouts.specs.Layout.{pool_stripe, slice_in, slice_of}
use Rattle.draid_machine.specs.declared.names.ArmName.{ArmName}
use Rattle.draid_machine.specs.declared.names.ArmName.TheVariants.{Spare}
use Rattle.draid_machine.specs.Arms.{has_column, is_silent, leaf_at, lies_on, passes}
use Rattle.draid_machine.specs.Created.{IsReached}
use Rattle.draid_machine.specs.Names.{any_below, has_name, has_number, named}
use Rattle.draid_machine.specs.State as machine
use Rattle.draid_machine.proofs.Small.{absurd_test, any_at, both_true, either_true, is_equal, true_both}
use Rattle.draid_slots.specs.Reading.{answers, first_leaf, holder, holder_of, is_online, pool_slice, spare_slot}
use Rattle.draid_slots.specs.States.{HasSlots, name_of}
use Rattle.draid_slots.specs.Table.{SlotTable, arm_at, arms_of, is_leaf_kind}
use Rattle.draid_marks.specs.Layout.{layout_with}
use Rattle.draid_marks.specs.Silent.{has_column_in, is_silent_in, lies_silent}
use Rattle.draid_marks.proofs.Answering.{leaf_is_online, name_listed, owned, silent_there}
use Rattle.draid_marks.proofs.Places as places

-- ---- tests
pub found_below : (n : ℕ) (p : ℕ → Bool) → any_below n p ≡ true → (x : ℕ) × (x < n) × (p x ≡ true)
found_below zero p any = absurd_test false any refl
found_below (suc n) p any = elim (either_true (any_below n p) (p n) any) [
  | inl before ↦ (let z = found_below n p before in (z.0, (let l = z.1 in omega (arith, l)), z.2))
  | inr here ↦ (n, omega arith, here)
]

pub both_ways : (a b : Bool) → (a ≡ true → b ≡ true) → (b ≡ true → a ≡ true) → a ≡ b
both_ways true b f g = sym (f refl)
both_ways false true f g = absurd_test false (g refl) refl
both_ways false false f g = refl

pub stood : (perms : Perms) (slice position slot : ℕ) → stands_before perms slice position slot ≡ true → (at : ℕ) × (at < position) × (child_of perms slice at ≡ slot)
stood perms slice zero slot is = absurd_test false is refl
stood perms slice (suc p) slot is = elim (either_true (child_of perms slice p == slot) (stands_before perms slice p slot) is) [
  | inl here ↦ (p, omega arith, is_equal (child_of perms slice p) slot here)
  | inr before ↦ (let z = stood perms slice p slot before in (z.0, (let l = z.1 in omega (arith, l)), z.2))
]

small_mod : (a w : ℕ) → a < w → a % w ≡ a
small_mod a w less = grind (arith, less)

-- a leaf of a list
pub same_number : (xs : List ℕ) (x : ℕ) → list_any (λ y. y == x) xs ≡ has_number xs x
same_number [] x = refl
same_number (y ∷ ys) x = ap (λ b. (y == x) || b) (same_number ys x)

-- ---- one slice
slice_back : (slice rows height : ℕ) → 0 < rows → 0 < height → slice * (rows * height) / (rows * height) ≡ slice
slice_back slice rows height r h = let both : 0 < rows * height = grind arith in let z : slice * (rows * height) + 0 ≡ slice * (rows * height) = omega arith in ap (λ n. n / (rows * height)) (sym z) ∙ div-mul-add slice (rows * height) 0 both

-- the code's test of an arm's leaf in a slice
pub silent_by : (slots : SlotTable) (failed : List ℕ) (at : ArmAt) (slice other leaf : ℕ) → other ≡ slice → IsSomeAnd (holder slots at other) (λ (a : Arm). a.number ≡ leaf)
    → (not (answers slots at slice) || list_any (λ y. y == leaf) failed) ≡ is_silent_in slots failed at slice
silent_by slots failed at slice other leaf same is = by (holder slots at slice) refl (subst (λ s. IsSomeAnd (holder slots at s) (λ (a : Arm). a.number ≡ leaf)) same is)
  where
    by : (o : Option Arm) → holder slots at slice ≡ o → IsSomeAnd o (λ (a : Arm). a.number ≡ leaf) → (not (answers slots at slice) || list_any (λ y. y == leaf) failed) ≡ is_silent_in slots failed at slice
    by None held h = absurd h
    by (Some a) held h =
        ap (λ b. not (answers slots at slice) || b) (same_number failed leaf ∙ ap (has_number failed) (sym h))
        ∙ sym (ap (λ o. passes (option_map (λ (x : Arm). x.number) o) (λ leaf. not (answers slots at slice) || has_number failed leaf)) held)

module _ (slots : SlotTable) (lay : IsLayout slots.geometry slots.perms) where
  -- a sector at the front of a slice is in it
  pub slice_front : (slice size : ℕ) → size ≡ slice_sectors slots.geometry → slice_at slots.geometry (slice * size) ≡ slice
  slice_front slice size is =
      let some = has_some slots.geometry lay.geometry_is in
      ap (λ n. slice_at slots.geometry (slice * n)) is ∙ slice_back slice slots.geometry.rows slots.geometry.props.height some.rows some.height

  -- and in the metaslab
  pub front_inside : (slice size : ℕ) → size ≡ slice_sectors slots.geometry → slice < slots.geometry.props.slices → slice * size < metaslab_sectors slots.geometry
  front_inside slice size is less =
      let some = has_some slots.geometry lay.geometry_is in
      let up : (slice + 1) * (slots.geometry.rows * slots.geometry.props.height) ≤ slots.geometry.props.slices * (slots.geometry.rows * slots.geometry.props.height)
      = mul-le-mul_right (slots.geometry.rows * slots.geometry.props.height) (omega (arith, less)) in
      let more : slice * (slots.geometry.rows * slots.geometry.props.height) < (slice + 1) * (slots.geometry.rows * slots.geometry.props.height) = step slice slots.geometry.rows slots.geometry.props.height some.rows some.height in
      let same : slots.geometry.props.slices * (slots.geometry.rows * slots.geometry.props.height) ≡ metaslab_sectors slots.geometry = assoc slots.geometry.props.slices slots.geometry.rows slots.geometry.props.height in
      let whole : slice * (slots.geometry.rows * slots.geometry.props.height) < metaslab_sectors slots.geometry = omega (arith, up, more, same) in
      subst (λ (n : ℕ). slice * n < metaslab_sectors slots.geometry) (sym is) whole
    where
      step : (a b c : ℕ) → 0 < b → 0 < c → a * (b * c) < (a + 1) * (b * c)
      step a b c x y = let both : 0 < b * c = grind arith in let next : (a + 1) * (b * c) ≡ a * (b * c) + b * c = grind arith in omega (arith, both, next)

      assoc : (a b c : ℕ) → a * (b * c) ≡ a * b * c
      assoc a b c = grind arith

  -- ---- a position of a slice: the first stripe of its column's group
  module _ (slice position : ℕ) (inside : slice < slots.geometry.props.slices) (low : position < slots.geometry.ndisks) where
    abbrev pub stripe : ℕ
    stripe = (slice * slots.geometry.ngroups + position / slots.geometry.g) * slots.geometry.props.height

    abbrev pub column : ℕ
    column = position % slots.geometry.g

    abbrev whole : ℕ
    whole = slots.metaslab * slots.geometry.props.slices + slice

    pub column_low : column < slots.geometry.g
    column_low = mod-lt position (has_some slots.geometry lay.geometry_is).columns

    group_low : position / slots.geometry.g < slots.geometry.ngroups
    group_low =
        let z : 0 * slots.geometry.ndisks + position ≡ position = omega arith in
        subst (λ n. n / slots.geometry.g < slots.geometry.ngroups) z
        (group_of_position slots.geometry 0 position lay.geometry_is (has_some slots.geometry lay.geometry_is).rows low)

    pub stripe_low : stripe < metaslab_stripes slots.geometry
    stripe_low =
        let some = has_some slots.geometry lay.geometry_is in
        let z = three_below slots.geometry.props.height slots.geometry.ngroups slice (position / slots.geometry.g) 0 slots.geometry.props.slices inside group_low some.height in
        omega (arith, z)

    pool_is : pool_stripe slots.geometry slots.metaslab stripe ≡ (whole * slots.geometry.ngroups + position / slots.geometry.g) * slots.geometry.props.height + 0
    pool_is = sums slots.metaslab slots.geometry.props.slices slots.geometry.ngroups slots.geometry.props.height slice (position / slots.geometry.g)
      where
        sums : (n s u h i g : ℕ) → n * (s * u * h) + (i * u + g) * h ≡ ((n * s + i) * u + g) * h + 0
        sums n s u h i g = grind arith

    -- it is in the slice
    pub slice_is : slice_of slots.geometry stripe ≡ slice
    slice_is =
        let some = has_some slots.geometry lay.geometry_is in
        let here : slice_in slots.geometry slots.metaslab stripe ≡ whole
        = ap (λ n. n / (slots.geometry.props.height * slots.geometry.ngroups)) pool_is
        ∙ high_digit slots.geometry.props.height slots.geometry.ngroups whole (position / slots.geometry.g) 0 group_low some.height
        in
        let follows = places.slice_follows slots lay stripe in
        omega (arith, here, follows)

    -- and its column is on the slot at the position
    pub slot_is : (layout_with slots).slot_of stripe column ≡ child_of slots.perms whole position
    slot_is =
        let some = has_some slots.geometry lay.geometry_is in
        ap (λ n. (place_of slots.geometry slots.perms n column).child) pool_is
        ∙ ap (λ (p : Place). p.child) (spot_place slots.geometry slots.perms whole (position / slots.geometry.g) 0 column group_low some.height)
        ∙ ap (child_of slots.perms whole) index_is
      where
        index_is : (position / slots.geometry.g * slots.geometry.g + column) % slots.geometry.ndisks ≡ position
        index_is = ap (λ n. n % slots.geometry.ndisks) (its_digits slots.geometry.g position) ∙ small_mod position slots.geometry.ndisks low

-- ---- in a state
module _ (slots : SlotTable) (lay : IsLayout slots.geometry slots.perms) (w : machine.State) (reached : IsReached (layout_with slots) w) (has : HasSlots slots w.core) (failed : List ℕ) where
  abbrev l : machine.Layout
  l = layout_with slots

  abbrev bad : ℕ → Bool
  bad = is_silent w.core failed

  -- ---- a leaf
  leaf_silent : (at : ArmAt) (a : Arm) → arm_at slots at ≡ Some a → a.kind ≡ kind.Leaf → is_silent_in slots failed at 0 ≡ is_silent w.core failed a.number
  leaf_silent at a there e =
      ap (λ o. passes (option_map (λ (x : Arm). x.number) o) (λ leaf. not (is_online o) || has_number failed leaf)) held
      ∙ sym (ap (λ b. not b || has_number failed a.number) (leaf_is_online slots lay w reached has at a there e))
    where
      held : holder slots at 0 ≡ Some a
      held = ap (holder_of slots at.slot 0) there ∙ ap (λ k. if is_leaf_kind k then Some a else first_leaf (arms_of slots (spare_slot slots at.slot a.number 0))) e

  -- ---- a spare
  module _ (at : ArmAt) (a : Arm) (there : arm_at slots at ≡ Some a) (spare : a.kind ≡ kind.Spare) where
    abbrev name : ArmName
    name = Spare a.number

    -- in a slice it lies so where its slot has a column
    abbrev lies_in : ℕ → Bool
    lies_in slice = has_column_in slots at.slot slice && is_silent_in slots failed at slice

    -- and so at a stripe
    abbrev lies_at : ℕ → Bool
    lies_at x = has_column l w.core name x && passes (leaf_at l w.core.order name x) bad

    named_so : name_of a ≡ name
    named_so = ap (λ k. named k a.number) spare

    listed : has_name (w.core.order at.slot) name ≡ true
    listed = subst (λ ns. has_name ns name ≡ true) (sym (has.order at.slot)) (name_listed (arms_of slots at.slot) at.arm name (ap (option_map name_of) there ∙ ap Some named_so))

    -- where a column of its slot lies in the arm's slice
    own_row : (x c : ℕ) → l.slot_of x c ≡ at.slot → passes (leaf_at l w.core.order name x) bad ≡ is_silent_in slots failed at (slice_of slots.geometry x)
    own_row x c slot =
        ap (λ n. passes (leaf_at l w.core.order n x) bad) (sym named_so) ∙ silent_there slots lay w reached has x c at a slot there failed

    columns_stand : (x c : ℕ) → l.slot_of x c ≡ at.slot → has_column_in slots at.slot (slice_of slots.geometry x) ≡ true
    columns_stand x c slot =
        let h = places.has_column slots lay x c in
        let disks = lay.geometry_is.disks in
        let all = lay.perms_are.children in
        let before = h.before in
        ap (λ s. stands_before slots.perms s slots.geometry.ndisks at.slot) (sym (places.slice_follows slots lay x))
        ∙ stands_there slots.perms (slice_in slots.geometry slots.metaslab x) slots.geometry.ndisks h.position at.slot (omega (arith, disks, all, before)) (h.stands ∙ slot)

    there_then : lies_on l w.core bad name ≡ true → any_below slots.geometry.props.slices lies_in ≡ true
    there_then on =
        let f = found_below l.stripes lies_at on in
        let both = both_true (has_column l w.core name f.0) (passes (leaf_at l w.core.order name f.0) bad) f.2 in
        let c = found_below l.columns (λ c. has_name (w.core.order (l.slot_of f.0 c)) name) both.0 in
        let slot : l.slot_of f.0 c.0 ≡ at.slot = (owned slots lay w reached has).listed.one (l.slot_of f.0 c.0) at.slot name c.2 listed in
        any_at slots.geometry.props.slices lies_in (slice_of slots.geometry f.0) (places.slice_below slots lay f.0 f.1)
        (true_both (has_column_in slots at.slot (slice_of slots.geometry f.0)) (is_silent_in slots failed at (slice_of slots.geometry f.0)) (columns_stand f.0 c.0 slot) (sym (own_row f.0 c.0 slot) ∙ both.1))

    then_there : any_below slots.geometry.props.slices lies_in ≡ true → lies_on l w.core bad name ≡ true
    then_there any =
        let f = found_below slots.geometry.props.slices lies_in any in
        let both = both_true (has_column_in slots at.slot f.0) (is_silent_in slots failed at f.0) f.2 in
        let p = stood slots.perms (pool_slice slots f.0) slots.geometry.ndisks at.slot both.0 in
        by f.0 p.0 f.1 p.1 p.2 both.1
      where
        by : (slice position : ℕ) (inside : slice < slots.geometry.props.slices) (low : position < slots.geometry.ndisks) → child_of slots.perms (pool_slice slots slice) position ≡ at.slot
            → is_silent_in slots failed at slice ≡ true → lies_on l w.core bad name ≡ true
        by slice position inside low child silent =
            let x : ℕ = stripe slots lay slice position inside low in
            let c : ℕ = column slots lay slice position inside low in
            let slot : l.slot_of x c ≡ at.slot = slot_is slots lay slice position inside low ∙ child in
            any_at l.stripes lies_at x (stripe_low slots lay slice position inside low)
            (true_both (has_column l w.core name x) (passes (leaf_at l w.core.order name x) bad)
            (any_at l.columns (λ c. has_name (w.core.order (l.slot_of x c)) name) c (column_low slots lay slice position inside low) (subst (λ s. has_name (w.core.order s) name ≡ true) (sym slot) listed))
            (own_row x c slot ∙ ap (is_silent_in slots failed at) (slice_is slots lay slice position inside low) ∙ silent))

    spare_silent : any_below slots.geometry.props.slices lies_in ≡ lies_on l w.core bad name
    spare_silent = both_ways (any_below slots.geometry.props.slices lies_in) (lies_on l w.core bad name) then_there there_then

  pub silent_is : (at : ArmAt) (a : Arm) → arm_at slots at ≡ Some a → lies_silent slots failed at (Some a) ≡ lies_on l w.core bad (name_of a)
  silent_is at a there = by a.kind refl
    where
      by : (k : ArmKind) → a.kind ≡ k → (if is_leaf_kind a.kind then is_silent_in slots failed at 0 else any_below slots.geometry.props.slices (λ slice. has_column_in slots at.slot slice && is_silent_in slots failed at slice))
          ≡ lies_on l w.core bad (named a.kind a.number)
      by kind.Leaf e =
          ap (λ k. if is_leaf_kind k then is_silent_in slots failed at 0 else any_below slots.geometry.props.slices (λ slice. has_column_in slots at.slot slice && is_silent_in slots failed at slice)) e
          ∙ leaf_silent at a there e ∙ sym (ap (λ k. lies_on l w.core bad (named k a.number)) e)
      by kind.Spare e =
          ap (λ k. if is_leaf_kind k then is_silent_in slots failed at 0 else any_below slots.geometry.props.slices (λ slice. has_column_in slots at.slot slice && is_silent_in slots failed at slice)) e
          ∙ spare_silent at a there e ∙ sym (ap (λ k. lies_on l w.core bad (named k a.number)) e)

-- No two arms of a block that answer lie on one leaf, by the slots alone.
use Rattle.std.proofs.Common.{arith, ◌≡◌, ◌+◌, ◌*◌, ◌<◌, ◌≤◌, ◌⊎◌, ◌∙◌, ℕ, zero, suc, List, [], ◌∷◌, Option, Some, None, refl, sym, ap, subst, inl, inr, length, slice_get, if◌then◌else◌}
use Rattle.std.specs.Prelude.{option_map, slice_index_or}
use Rattle.std.proofs.lemmas.Bool.{cases_lt}
use Rattle.std.proofs.lemmas.Option.{slice_get-get_or, slice_get_within}
use Rattle.draid_names.specs.Spares.{AreOfOne, AreSpares, IsArm}
use Rattle.draid_names.specs.declared.arm.Arm.{Arm}
use Rattle.draid_names.specs.declared.arm.ArmAt.{ArmAt}
use Rattle.draid_names.specs.declared.arm.ArmKind.{ArmKind}
use Rattle.draid_names.specs.declared.arm.ArmKind.TheVariants as kind
use Rattle.draid_names.specs.declared.pointer.Pointer.{Pointer}
use Rattle.draid_spec.specs.Geometry.{slice_at}
use Rattle.draid_perm.specs.Perms.{children_of}
use Rattle.draid_map.proofs.Distinct as distinct
use Rattle.draid_chain.specs.Chain.{holder_in}
use Rattle.draid_chain.proofs.Holders.{holder_no_column, holders_same}
use Rattle.draid_layouts.specs.Layout.{pool_stripe, slice_in}
use Rattle.draid_machine.specs.Names.{named}
use Rattle.draid_machine.proofs.Small.{some_same}
use Rattle.draid_slots.specs.Changes.{IsOf}
use Rattle.draid_slots.specs.Reading.{first_leaf, holder_of, pool_slice, spare_slot}
use Rattle.draid_slots.specs.States.{name_of}
use Rattle.draid_slots.specs.Table.{IsTable, SlotTable, arm_at, arms_of, first_spare, first_spares, is_leaf_kind, is_spare_kind}
use Rattle.draid_shard.specs.Fits.{NamesOnce}
use Rattle.draid_shard.specs.Part.{IsPart, Part, layout_in}
use Rattle.draid_shard.specs.Rows.{arm_no}
use Rattle.draid_shard.specs.declared.loan.Spot.{Spot}
use Rattle.draid_shard.proofs.Homes.{child_below, has_column, slice_follows}
use Rattle.draid_shard.specs.Spots.{AreLeavesApart, SpotOn, SpotsOf, rows_at}

-- ---- the arms of a slot

beyond : (xs : List (List Arm)) (slot : ℕ) → length xs ≤ slot → length (slice_index_or xs slot []) ≡ 0
beyond [] slot far = refl
beyond (x ∷ xs) zero far = absurd (omega (arith, far))
beyond (x ∷ xs) (suc slot) far = beyond xs slot (omega (arith, far))

record HasArm (arms : List Arm) (q : ArmKind) (number : ℕ) : Type 0 where
  pub k : ℕ
  pub arm : Arm
  pub there : slice_get arms k ≡ Some arm
  pub kind_is : arm.kind ≡ q
  pub number_is : arm.number ≡ number

later : (x : Arm) (arms : List Arm) (q : ArmKind) (number : ℕ) → HasArm arms q number → HasArm (x ∷ arms) q number
later x arms q number h = record { k = suc h.k; arm = h.arm; there = h.there; kind_is = h.kind_is; number_is = h.number_is }

spare_there : (arms : List Arm) (t : ℕ) → first_spare arms ≡ Some t → HasArm arms kind.Spare t
spare_there [] t is = absurd (cc)
spare_there (x ∷ arms) t is = by x.kind refl (λ e. spare_there arms t e)
  where
    by : (q : ArmKind) → x.kind ≡ q → (first_spare arms ≡ Some t → HasArm arms kind.Spare t) → HasArm (x ∷ arms) kind.Spare t
    by kind.Leaf e rest = later x arms kind.Spare t (rest (sym (ap (λ q. if is_spare_kind q then Some x.number else first_spare arms) e) ∙ is))
    by kind.Spare e rest = record {
      k = 0;
      arm = x;
      there = refl;
      kind_is = e;
      number_is = some_same (Some x.number) x.number t refl (sym (ap (λ q. if is_spare_kind q then Some x.number else first_spare arms) e) ∙ is);
    }

leaf_there : (arms : List Arm) (leaf : Arm) → first_leaf arms ≡ Some leaf → HasArm arms kind.Leaf leaf.number
leaf_there [] leaf is = absurd (cc)
leaf_there (x ∷ arms) leaf is = by x.kind refl (λ e. leaf_there arms leaf e)
  where
    by : (q : ArmKind) → x.kind ≡ q → (first_leaf arms ≡ Some leaf → HasArm arms kind.Leaf leaf.number) → HasArm (x ∷ arms) kind.Leaf leaf.number
    by kind.Spare e rest = later x arms kind.Leaf leaf.number (rest (sym (ap (λ q. if is_leaf_kind q then Some x else first_leaf arms) e) ∙ is))
    by kind.Leaf e rest = record {
      k = 0;
      arm = x;
      there = refl;
      kind_is = e;
      number_is = ap (λ (a : Arm). a.number) (some_same (Some x) x leaf refl (sym (ap (λ q. if is_leaf_kind q then Some x else first_leaf arms) e) ∙ is));
    }

module _ (part : Part) (is : IsPart part) (slots : SlotTable) (of : IsOf slots part.geometry part.perms part.number) (once : NamesOnce slots) (table : IsTable slots) (pointer : Pointer) where
  abbrev first : ℕ → Option ℕ
  first = first_spares slots

  abbrev spares : ℕ
  spares = part.geometry.spec.spares

  abbrev slot_at : ℕ → ℕ
  slot_at c = (layout_in part).slot_of pointer.first c

  abbrev slice : ℕ
  slice = slice_in part.geometry part.number pointer.first

  abbrev at_slot : ℕ → ℕ → ArmAt
  at_slot slot k = record { slot = slot; arm = k }

  slot_low : (slot k : ℕ) (arm : Arm) → slice_get (arms_of slots slot) k ≡ Some arm → slot < length slots.arms
  slot_low slot k arm there = elim (cases_lt slot (length slots.arms)) [
    | inl less ↦ less
    | inr far ↦ absurd (let none = beyond slots.arms slot far in let within = slice_get_within (arms_of slots slot) k arm there in omega (arith, none, within))
  ]

  spare_fits : (slot t : ℕ) → HasArm (arms_of slots slot) kind.Spare t → t < spares
  spare_fits slot t h =
      let low = slot_low slot h.k h.arm h.there in
      let within = slice_get_within (arms_of slots slot) h.k h.arm h.there in
      let here = table.slots.each slot [] low in
      let arm : Arm = slice_index_or (arms_of slots slot) h.k h.arm in
      let same : arm ≡ h.arm = some_same (slice_get (arms_of slots slot) h.k) arm h.arm (slice_get-get_or (arms_of slots slot) h.k h.arm within) h.there in
      let less : arm.number < slots.geometry.spec.spares = here.pooled h.k h.arm within (ap (λ (a : Arm). is_spare_kind a.kind) same ∙ ap is_spare_kind h.kind_is) in
      subst (λ n. n < spares) (ap (λ (a : Arm). a.number) same ∙ h.number_is) (subst (λ g. arm.number < g) (ap (λ g. g.spec.spares) of.geometry_is) less)

  -- a name stands at one place
  one_place : (slot other : ℕ) (q : ArmKind) (number : ℕ) (a : HasArm (arms_of slots slot) q number) (b : HasArm (arms_of slots other) q number) → at_slot slot a.k ≡ at_slot other b.k
  one_place slot other q number a b =
      once.arms (at_slot slot a.k) (at_slot other b.k) a.arm b.arm a.there b.there
      ((λ i. named (a.kind_is i) (a.number_is i)) ∙ sym (λ i. named (b.kind_is i) (b.number_is i)))

  one_slot : (slot other : ℕ) (q : ArmKind) (number : ℕ) → HasArm (arms_of slots slot) q number → HasArm (arms_of slots other) q number → slot ≡ other
  one_slot slot other q number a b = ap (λ (at : ArmAt). at.slot) (one_place slot other q number a b)

  are_spares : AreSpares (children_of part.perms) spares first
  are_spares slot t less e = spare_fits slot t (spare_there (arms_of slots slot) t e)

  of_one : AreOfOne (children_of part.perms) first first
  of_one a b t x y e f = one_slot a b kind.Spare t (spare_there (arms_of slots a) t e) (spare_there (arms_of slots b) t f)

  in_children : (c : ℕ) → slot_at c < children_of part.perms
  in_children c = let low = child_below part is pointer.first c in let same = is.layout.perms_are.children in omega (arith, low, same)

  is_arm : (c t : ℕ) → HasArm (arms_of slots (slot_at c)) kind.Spare t → IsArm (children_of part.perms) spares first (slot_at c) t
  is_arm c t h = record {
    slot_is = in_children c;
    spare_is = spare_fits (slot_at c) t h;
    only = λ other there e. one_slot other (slot_at c) kind.Spare t (spare_there (arms_of slots other) t e) h;
  }

  abbrev home : ℕ → ℕ → ℕ
  home c t = holder_in part.perms spares slice first (slot_at c) t

  home_is : (c t : ℕ) → c < part.geometry.g → spare_slot slots (slot_at c) t (rows_at part pointer c).slice ≡ home c t
  home_is c t column =
      let local : pool_slice slots (slice_at part.geometry ((layout_in part).sector_of pointer.first c)) ≡ slice
      = (λ i. of.metaslab_is i * (of.geometry_is i).props.slices + slice_at part.geometry ((layout_in part).sector_of pointer.first c)) ∙ slice_follows part is pointer.first c column in
      λ i. holder_in (of.perms_are i) (of.geometry_is i).spec.spares (local i) first (slot_at c) t

  -- the slot on whose leaf a spot lies
  abbrev LiesIn : ℕ → ℕ → ℕ → Type 0
  LiesIn c k leaf = ((at : HasArm (arms_of slots (slot_at c)) kind.Leaf leaf) × (at.k ≡ k)) ⊎ ((t : ℕ) × (at : HasArm (arms_of slots (slot_at c)) kind.Spare t) × (at.k ≡ k) × HasArm (arms_of slots (home c t)) kind.Leaf leaf)

  abbrev own_slice : ℕ → ℕ
  own_slice c = (rows_at part pointer c).slice

  lies_in : (spot : Spot) (o : SpotOn part slots pointer spot) → LiesIn spot.column o.k spot.leaf
  lies_in spot o = by o.arm.kind refl
    where
      lies : option_map (λ (a : Arm). a.number) (if is_leaf_kind o.arm.kind then Some o.arm else first_leaf (arms_of slots (spare_slot slots (slot_at spot.column) o.arm.number (own_slice spot.column)))) ≡ Some spot.leaf
      lies = sym (ap (λ found. option_map (λ (a : Arm). a.number) (holder_of slots (slot_at spot.column) (own_slice spot.column) found)) o.there) ∙ o.lies

      on_home : (found : Option Arm) → first_leaf (arms_of slots (spare_slot slots (slot_at spot.column) o.arm.number (own_slice spot.column))) ≡ found → option_map (λ (a : Arm). a.number) found ≡ Some spot.leaf
          → HasArm (arms_of slots (home spot.column o.arm.number)) kind.Leaf spot.leaf
      on_home None is e = absurd (cc)
      on_home (Some leaf) is e =
          let number : leaf.number ≡ spot.leaf = some_same (Some leaf.number) leaf.number spot.leaf refl e in
          subst (λ s. HasArm (arms_of slots s) kind.Leaf spot.leaf) (home_is spot.column o.arm.number o.column)
          (subst (HasArm (arms_of slots (spare_slot slots (slot_at spot.column) o.arm.number (own_slice spot.column))) kind.Leaf) number (leaf_there (arms_of slots (spare_slot slots (slot_at spot.column) o.arm.number (own_slice spot.column))) leaf is))

      by : (q : ArmKind) → o.arm.kind ≡ q → LiesIn spot.column o.k spot.leaf
      by kind.Leaf e =
          let own : Some o.arm.number ≡ Some spot.leaf = sym (ap (λ q. option_map (λ (a : Arm). a.number) (if is_leaf_kind q then Some o.arm else first_leaf (arms_of slots (spare_slot slots (slot_at spot.column) o.arm.number (own_slice spot.column))))) e) ∙ lies in
          inl (record { k = o.k; arm = o.arm; there = o.there; kind_is = e; number_is = some_same (Some o.arm.number) o.arm.number spot.leaf refl own }, refl)
      by kind.Spare e =
          let on = sym (ap (λ q. option_map (λ (a : Arm). a.number) (if is_leaf_kind q then Some o.arm else first_leaf (arms_of slots (spare_slot slots (slot_at spot.column) o.arm.number (own_slice spot.column))))) e) ∙ lies in
          inr (o.arm.number, record { k = o.k; arm = o.arm; there = o.there; kind_is = e; number_is = refl }, refl, on_home _ refl on)

  one_column : (c d : ℕ) → c < part.geometry.g → d < part.geometry.g → slot_at c ≡ slot_at d → c ≡ d
  one_column c d less other same = distinct.columns_apart part.geometry part.perms (pool_stripe part.geometry part.number pointer.first) c d is.layout less other same

  no_home : (c d t : ℕ) → HasArm (arms_of slots (slot_at c)) kind.Spare t → home c t ≡ slot_at d → ⊥
  no_home c d t h same = holder_no_column part.perms spares slice (slot_at c) t (slot_at d) first are_spares (spare_fits (slot_at c) t h) (has_column part is pointer.first d) same

  abbrev IsSamePlace : ℕ → ℕ → ℕ → ℕ → Type 0
  IsSamePlace c j d k = (c ≡ d) × (j ≡ k)

  same_arm : (c j d k : ℕ) (q : ArmKind) (number : ℕ) → c < part.geometry.g → d < part.geometry.g → (a : HasArm (arms_of slots (slot_at c)) q number) → a.k ≡ j → (b : HasArm (arms_of slots (slot_at d)) q number) → b.k ≡ k → IsSamePlace c j d k
  same_arm c j d k q number less other a x b y =
      let place = one_place (slot_at c) (slot_at d) q number a b in
      (one_column c d less other (ap (λ (at : ArmAt). at.slot) place), sym x ∙ ap (λ (at : ArmAt). at.arm) place ∙ y)

  places : (c j d k leaf : ℕ) → c < part.geometry.g → d < part.geometry.g → LiesIn c j leaf → LiesIn d k leaf → IsSamePlace c j d k
  places c j d k leaf less other (inl x) (inl y) = same_arm c j d k kind.Leaf leaf less other x.0 x.1 y.0 y.1
  places c j d k leaf less other (inl x) (inr y) = absurd (no_home d c y.0 y.1 (one_slot (home d y.0) (slot_at c) kind.Leaf leaf y.3 x.0))
  places c j d k leaf less other (inr x) (inl y) = absurd (no_home c d x.0 x.1 (one_slot (home c x.0) (slot_at d) kind.Leaf leaf x.3 y.0))
  places c j d k leaf less other (inr x) (inr y) =
      let homes : home c x.0 ≡ home d y.0 = one_slot (home c x.0) (home d y.0) kind.Leaf leaf x.3 y.3 in
      let same : x.0 ≡ y.0 = holders_same part.perms spares slice (slot_at c) (slot_at d) x.0 y.0 first first are_spares are_spares of_one
      (has_column part is pointer.first c) (is_arm c x.0 x.1) (has_column part is pointer.first d) (is_arm d y.0 y.1) homes in
      same_spare x.0 y.0 same x.1 x.2 y.1 y.2
    where
      same_spare : (t u : ℕ) → t ≡ u → (a : HasArm (arms_of slots (slot_at c)) kind.Spare t) → a.k ≡ j → (b : HasArm (arms_of slots (slot_at d)) kind.Spare u) → b.k ≡ k → IsSamePlace c j d k
      same_spare t u same a x b y =
          same_arm c j d k kind.Spare u less other (record { k = a.k; arm = a.arm; there = a.there; kind_is = a.kind_is; number_is = a.number_is ∙ same }) x b y

  pub spots_apart : (spots : List Spot) → SpotsOf part slots pointer spots → AreLeavesApart spots
  spots_apart spots right i j a b at there same =
      let x = right.each i a at in
      let y = right.each j b there in
      let place = places a.column x.k b.column y.k b.leaf x.column y.column (subst (LiesIn a.column x.k) same (lies_in a x)) (lies_in b y) in
      let arm : x.arm ≡ y.arm = some_same (arm_at slots (arm_no (rows_at part pointer b.column) y.k)) x.arm y.arm
      (sym (λ n. arm_at slots (arm_no (rows_at part pointer (place.0 n)) (place.1 n))) ∙ x.there) y.there in
      right.once i j a b at there place.0 (sym x.arm_is ∙ ap name_of arm ∙ y.arm_is)

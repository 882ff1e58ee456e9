-- No target of a rebuild's stripe lies where one of its sources does, nor where another column's target does.
use Rattle.std.proofs.Common.{arith, ◌≡◌, ◌<◌, ◌≤◌, ◌∙◌, ◌++◌, ◌⊎◌, ℕ, zero, suc, Bool, true, false, List, [], ◌∷◌, Option, Some, None, refl, sym, ap, subst, inl, inr, length, slice_get}
use Rattle.std.specs.Prelude.{option_map, slice_index_or}
use Rattle.draid_names.specs.declared.arm.ArmAt.{ArmAt}
use Rattle.draid_names.specs.declared.arm.At.{At}
use Rattle.draid_names.specs.declared.pointer.Pointer.{Pointer}
use Rattle.draid_machine.specs.Arms.{leaf_at}
use Rattle.draid_machine.specs.Created.{IsReached}
use Rattle.draid_machine.specs.Names.{any_below, has_name}
use Rattle.draid_machine.specs.State as machine
use Rattle.draid_machine.specs.declared.names.ArmName.{ArmName}
use Rattle.draid_machine.proofs.Small.{absurd_test, bool_cases, either_true, some_same}
use Rattle.draid_slots.specs.Changes.{IsOf}
use Rattle.draid_slots.specs.States.{HasSlots, name_of, names_at}
use Rattle.draid_slots.specs.Table.{SlotTable, arm_at}
use Rattle.draid_shard.specs.Part.{IsPart, IsRun, Part, layout_in}
use Rattle.draid_shard.specs.Rows.{AreApart, IsRowsOf, arm_no, leaf_on}
use Rattle.draid_shard.specs.declared.loan.Source.{Source}
use Rattle.draid_shard.proofs.Answering.{kept_arm, leaf_at_is, listed, listed_arm, named_arm}
use Rattle.draid_shard.proofs.Finding.{columns_apart}
use Rattle.draid_mend.specs.Landing.{AreApartSources}
use Rattle.draid_mend.specs.Stripes.{AreColumnsApart, KeepsColumn, landed_below, own_or_all, rows_at, source_at, sources_below, sources_for}
use Rattle.draid_mend.specs.Targets.{AreFree, mended_below}
use Rattle.draid_mend.proofs.Aims.{name_in}
use Rattle.draid_mend.proofs.Columned.{finds}

get_either : {A : Type 0} (xs ys : List A) (k : ℕ) (a : A) → slice_get (xs ++ ys) k ≡ Some a → ((j : ℕ) × (slice_get xs j ≡ Some a)) ⊎ ((j : ℕ) × (slice_get ys j ≡ Some a))
get_either [] ys k a is = inr (k, is)
get_either (x ∷ xs) ys zero a is = inl (zero, is)
get_either (x ∷ xs) ys (suc k) a is = elim (get_either xs ys k a is) [
  | inl z ↦ inl (suc z.0, z.1)
  | inr z ↦ inr z
]

pub any_found : (n : ℕ) (p : ℕ → Bool) → any_below n p ≡ true → (c : ℕ) × (c < n) × (p c ≡ true)
any_found zero p is = absurd_test false is refl
any_found (suc n) p is = elim (either_true (any_below n p) (p n) is) [
  | inl before ↦ (let z = any_found n p before in (z.0, (let less = z.1 in omega (arith, less)), z.2))
  | inr here ↦ (n, omega arith, here)
]

module _ (part : Part) (is : IsPart part) (slots : SlotTable) (of : IsOf slots part.geometry part.perms part.number) (w : machine.State) (reached : IsReached (layout_in part) w) (has : HasSlots slots w.core)
    (pointer : Pointer) (run : IsRun part.geometry pointer.first pointer.stripes) (targets : List ArmAt) where
  abbrev l : machine.Layout
  l = layout_in part

  own_rows : (c : ℕ) → IsRowsOf part pointer c (rows_at part pointer c)
  own_rows c = record { slot_is = refl; first_is = refl; count_is = refl; size_is = refl; birth_is = refl; slice_is = refl }

  -- an arm of a column's slot that keeps the row on a leaf
  record IsArmOn (c leaf : ℕ) : Type 0 where
    pub n : ArmName
    pub in_order : has_name (w.core.order (l.slot_of pointer.first c)) n ≡ true
    pub lies : leaf_at l w.core.order n pointer.first ≡ Some leaf

  arm_on : (c leaf k : ℕ) → c < part.geometry.g → leaf_on slots (rows_at part pointer c) k ≡ Some leaf → IsArmOn c leaf
  arm_on c leaf k low on =
      let z = kept_arm slots (rows_at part pointer c) k leaf on in
      record {
        n = name_of z.0;
        in_order = listed part is slots of w reached has pointer run c low (rows_at part pointer c) (own_rows c) k (name_of z.0) (ap (option_map name_of) z.1);
        lies = leaf_at_is part is slots of w reached has pointer run c low (rows_at part pointer c) (own_rows c) k z.0 z.1 ∙ on;
      }

  one_column : (c d leaf : ℕ) → c < part.geometry.g → d < part.geometry.g → IsArmOn c leaf → IsArmOn d leaf → c ≡ d
  one_column c d leaf low high a b = columns_apart part is slots of w reached has pointer run c d leaf a.n b.n low high a.in_order b.in_order a.lies b.lies

  pub columns_land_apart : AreColumnsApart part slots pointer targets
  columns_land_apart c d leaf low high one other = one_column c d leaf low high (arm_on c leaf one.at.arm low one.lies) (arm_on d leaf other.at.arm high other.lies)

  module _ (chosen : List (Option Source)) (p : machine.Pass) (pass : w.core.pass ≡ Some p) (targets_are : p.targets ≡ names_at slots targets) (apart : AreApartSources part w pointer.first chosen)
      (rows : (c : ℕ) → c < part.geometry.g → AreApart slots (rows_at part pointer c)) where
    -- a column was taken from this sector
    record IsTakenAt (a : At) : Type 0 where
      pub d : ℕ
      pub low : d < part.geometry.g
      pub source : Source
      pub there : slice_index_or chosen d None ≡ Some source
      pub leaf : source.leaf ≡ a.leaf

    from_one : (d : ℕ) → d < part.geometry.g → (o : Option Source) → slice_index_or chosen d None ≡ o → (k : ℕ) (a : At) → slice_get (source_at part pointer d o) k ≡ Some a → IsTakenAt a
    from_one d low None e k a at = absurd (cc)
    from_one d low (Some source) e zero a at =
        let same : source.leaf ≡ a.leaf = ap (λ (b : At). b.leaf) (some_same (slice_get (source_at part pointer d (Some source)) zero) (record { leaf = source.leaf; sector = l.sector_of pointer.first d }) a refl at) in
        record { d = d; low = low; source = source; there = e; leaf = same }
    from_one d low (Some source) e (suc k) a at = absurd (cc)

    from_below : (n : ℕ) → n ≤ part.geometry.g → (k : ℕ) (a : At) → slice_get (sources_below part pointer chosen n) k ≡ Some a → IsTakenAt a
    from_below zero low k a at = absurd (cc)
    from_below (suc n) low k a at = elim (get_either (sources_below part pointer chosen n) (source_at part pointer n (slice_index_or chosen n None)) k a at) [
      | inl z ↦ from_below n (omega (arith, low)) z.0 a z.1
      | inr z ↦ from_one n (omega (arith, low)) (slice_index_or chosen n None) refl z.0 a z.1
    ]

    source_found : (c : ℕ) → c < part.geometry.g → (k : ℕ) (a : At) → slice_get (sources_for part pointer chosen c) k ≡ Some a → IsTakenAt a
    source_found c low = by (slice_index_or chosen c None) refl
      where
        by : (o : Option Source) → slice_index_or chosen c None ≡ o → (k : ℕ) (a : At) → slice_get (own_or_all part pointer chosen c o) k ≡ Some a → IsTakenAt a
        by None e k a at = from_below part.geometry.g (omega arith) k a at
        by (Some source) e k a at = from_one c low (Some source) e k a at

    clash : (a : At) → IsTakenAt a → landed_below part slots pointer targets part.geometry.g a.leaf a.sector ≡ true → ⊥
    clash a s on =
        let z = any_found part.geometry.g (λ c. mended_below slots (rows_at part pointer c) targets (length targets) a.leaf a.sector) on in
        let h = finds slots (rows_at part pointer z.0) targets (length targets) a.leaf a.sector z.2 in
        let source = apart s.d s.source s.low s.there in
        let lies : leaf_at l w.core.order s.source.arm pointer.first ≡ Some a.leaf = source.lies ∙ ap Some s.leaf in
        let same : z.0 ≡ s.d = one_column z.0 s.d a.leaf z.1 s.low (arm_on z.0 a.leaf h.at.arm z.1 h.lies) (record { n = s.source.arm; in_order = source.listed; lies = lies }) in
        let target : KeepsColumn part slots pointer targets s.d a.leaf = subst (λ c. KeepsColumn part slots pointer targets c a.leaf) same h in
        let k = listed_arm part is slots of w reached has pointer run s.d s.low (rows_at part pointer s.d) (own_rows s.d) s.source.arm source.listed in
        let b = named_arm slots (rows_at part pointer s.d) k.0 s.source.arm k.2 in
        let own : leaf_on slots (rows_at part pointer s.d) k.0 ≡ Some a.leaf
        = sym (leaf_at_is part is slots of w reached has pointer run s.d s.low (rows_at part pointer s.d) (own_rows s.d) k.0 b.0 b.1) ∙ ap (λ m. leaf_at l w.core.order m pointer.first) b.2 ∙ lies in
        let arm : target.at.arm ≡ k.0 = (rows s.d s.low).leaves target.at.arm k.0 a.leaf target.lies own in
        let place : target.at ≡ arm_no (rows_at part pointer s.d) k.0 = λ i. record { slot = target.slot i; arm = arm i } in
        let there : arm_at slots target.at ≡ Some b.0 = ap (arm_at slots) place ∙ b.1 in
        absurd_test (has_name p.targets s.source.arm)
        (subst (λ ns. has_name ns s.source.arm ≡ true) (sym targets_are) (subst (λ m. has_name (names_at slots targets) m ≡ true) b.2 (name_in slots targets target.k target.at b.0 target.there there))) (source.apart p pass)

    pub sources_are_free : (c : ℕ) → c < part.geometry.g → AreFree (landed_below part slots pointer targets part.geometry.g) (sources_for part pointer chosen c)
    sources_are_free c low k a at = elim (bool_cases (landed_below part slots pointer targets part.geometry.g a.leaf a.sector)) [
      | inl on ↦ absurd (clash a (source_found c low k a at) on)
      | inr off ↦ off
    ]

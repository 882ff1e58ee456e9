-- The leaf that keeps an arm's sectors is an arm of a slot.
use Rattle.std.proofs.Common.{◌≡◌, ◌+◌, ◌*◌, ◌<◌, ◌≤◌, Bool, true, false, length, ◌∙◌, ℕ, zero, suc, List, [], ◌∷◌, Option, Some, None, arith, refl, sym, ap, subst, inl, slice_get, if◌then◌else◌}
use Rattle.std.specs.Prelude.{IsSomeAnd, MatchOption, option_map}
use Rattle.draid_names.specs.declared.arm.Arm.{Arm}
use Rattle.draid_names.specs.declared.arm.ArmAt.{ArmAt}
use Rattle.draid_names.specs.declared.arm.ArmKind.{ArmKind}
use Rattle.draid_names.specs.declared.arm.ArmKind.TheVariants.{Leaf, Spare}
use Rattle.draid_spec.specs.Geometry.{metaslab_sectors}
use Rattle.draid_rack.specs.Rack.{Shape}
use Rattle.draid_columns.specs.Columns.{HasRows}
use Rattle.draid_columns.specs.declared.rows.Rows.{Rows}
use Rattle.draid_slots.specs.Changes.{IsSame}
use Rattle.draid_slots.specs.declared.slot.ReadArm.{ReadArm}
use Rattle.draid_slots.specs.Reading.{IsRead, first_leaf, holder, holder_of, spare_slot}
use Rattle.draid_slots.specs.Table.{SlotTable, arm_at, arms_of, is_leaf_kind}
use Rattle.draid_machine.proofs.Small.{some_same}
use Rattle.draid_shard.specs.Fits.{IsLeaf}
use Rattle.draid_shard.specs.Rows.{FitsRows, arm_no, leaf_on, rows_on}
use Rattle.draid_shard.specs.declared.places.ColumnRows.{ColumnRows}

-- a leaf that is an arm of a slot
pub record IsArmLeaf (slots : SlotTable) (leaf : Arm) : Type 0 where
  pub at : ArmAt
  pub there : arm_at slots at ≡ Some leaf
  pub kind : leaf.kind ≡ Leaf

-- the first leaf of a list is one of its arms
found : (arms : List Arm) (leaf : Arm) → first_leaf arms ≡ Some leaf → (k : ℕ) × (slice_get arms k ≡ Some leaf) × (leaf.kind ≡ Leaf)
found [] leaf is = absurd (cc)
found (a ∷ others) leaf is = by a.kind refl (found others leaf) where
  by : (k : ArmKind) → a.kind ≡ k → (first_leaf others ≡ Some leaf → (k : ℕ) × (slice_get others k ≡ Some leaf) × (leaf.kind ≡ Leaf)) → (k : ℕ) × (slice_get (a ∷ others) k ≡ Some leaf) × (leaf.kind ≡ Leaf)
  by Leaf e rest =
      let it : Some a ≡ Some leaf = subst (λ k. (if is_leaf_kind k then Some a else first_leaf others) ≡ Some leaf) e is in
      (zero, it, some_same (Some leaf.kind) leaf.kind Leaf refl (ap (option_map (λ (x : Arm). x.kind)) (sym it) ∙ ap Some e))
  by Spare e rest =
      let behind = rest (subst (λ k. (if is_leaf_kind k then Some a else first_leaf others) ≡ Some leaf) e is) in
      (suc behind.0, behind.1, behind.2)

-- what keeps an arm's sectors in a slice is a leaf that is an arm
pub holder_there : (slots : SlotTable) (at : ArmAt) (slice : ℕ) (leaf : Arm) → holder slots at slice ≡ Some leaf → IsArmLeaf slots leaf
holder_there slots at slice leaf is = by (arm_at slots at) refl is where
  by : (o : Option Arm) → arm_at slots at ≡ o → holder_of slots at.slot slice o ≡ Some leaf → IsArmLeaf slots leaf
  by None there it = absurd (cc)
  by (Some a) there it = kind a.kind refl where
    kind : (k : ArmKind) → a.kind ≡ k → IsArmLeaf slots leaf
    kind Leaf e =
        let same : Some a ≡ Some leaf = subst (λ k. (if is_leaf_kind k then Some a else first_leaf (arms_of slots (spare_slot slots at.slot a.number slice))) ≡ Some leaf) e it in
        record {
          at = at;
          there = there ∙ same;
          kind = some_same (Some leaf.kind) leaf.kind Leaf refl (ap (option_map (λ (x : Arm). x.kind)) (sym same) ∙ ap Some e);
        }
    kind Spare e =
        let in_slot : first_leaf (arms_of slots (spare_slot slots at.slot a.number slice)) ≡ Some leaf
        = subst (λ k. (if is_leaf_kind k then Some a else first_leaf (arms_of slots (spare_slot slots at.slot a.number slice))) ≡ Some leaf) e it in
        let at_k = found (arms_of slots (spare_slot slots at.slot a.number slice)) leaf in_slot in
        record { at = record { slot = spare_slot slots at.slot a.number slice; arm = at_k.0 }; there = at_k.1; kind = at_k.2 }

-- the leaf that is written or read, as it was found
pub leaf_is : (slots : SlotTable) (rows : ColumnRows) (k leaf slice : ℕ) → slice ≡ rows.slice → IsSomeAnd (holder slots (arm_no rows k) slice) (λ (a : Arm). a.number ≡ leaf)
    → leaf_on slots rows k ≡ Some leaf
leaf_is slots rows k leaf slice same is = at (holder slots (arm_no rows k) rows.slice) (subst (λ s. IsSomeAnd (holder slots (arm_no rows k) s) (λ (a : Arm). a.number ≡ leaf)) same is) where
  at : (o : Option Arm) → IsSomeAnd o (λ (a : Arm). a.number ≡ leaf) → option_map (λ (a : Arm). a.number) o ≡ Some leaf
  at None h = absurd h
  at (Some a) h = ap Some h

-- an arm's leaf has the rows
pub rows_there : (shape : Shape) (slots : SlotTable) (rows : ColumnRows) (k leaf : ℕ) (on : Rows) → on ≡ rows_on rows leaf → FitsRows shape slots rows → leaf_on slots rows k ≡ Some leaf → HasRows shape on
rows_there shape slots rows k leaf on is fits lies = rw is (record {
  there = there (shape.leaves leaf) (fits.leaves.leaves leaf (leaf_there (holder slots (arm_no rows k) rows.slice) refl lies));
  whole = fits.size_is ∙ sym fits.leaves.bytes;
  low = (let inside = fits.inside in let low = fits.low in omega (arith, inside, low));
}) where
  leaf_there : (o : Option Arm) → holder slots (arm_no rows k) rows.slice ≡ o → option_map (λ (a : Arm). a.number) o ≡ Some leaf → IsLeaf slots leaf
  leaf_there None is n = absurd (cc)
  leaf_there (Some a) is n = let it = holder_there slots (arm_no rows k) rows.slice a is in inl (it.at, a, it.there, it.kind, some_same (Some a.number) a.number leaf refl n)

  there : (o : Option ℕ) → o ≡ Some (metaslab_sectors slots.geometry) → MatchOption o ⊥ (λ n. rows.first + rows.count ≤ n)
  there o e = subst (λ o. MatchOption o ⊥ (λ n. rows.first + rows.count ≤ n)) (sym e) fits.inside

-- slots with the same arms keep them on the same leaves
pub holder_same : (old new : SlotTable) (at : ArmAt) (slice : ℕ) → IsSame old new → new.arms ≡ old.arms → holder new at slice ≡ holder old at slice
holder_same old new at slice same arms = λ i. holder (record old { geometry = same.geometry_is i; perms = same.perms_are i; metaslab = same.metaslab_is i; arms = arms i }) at slice

-- the bytes of the rows on a leaf
pub rows_long : (rows : ColumnRows) (leaf : ℕ) (on : Rows) (long : ℕ) → on ≡ rows_on rows leaf → long ≡ rows.count * rows.size → long ≡ on.count * on.size
rows_long rows leaf on long same is = is ∙ ap (λ (on : Rows). on.count * on.size) (sym same)

-- the arm that a column is read from is there
pub read_there : (slots : SlotTable) (slot slice birth : ℕ) (read : ReadArm) → IsRead slots slot slice birth read → read.arm < length (arms_of slots slot)
read_there slots slot slice birth read is = by read.clean refl
  where
    by : (b : Bool) → read.clean ≡ b → read.arm < length (arms_of slots slot)
    by true clean = (is.clean_arm clean).within
    by false clean = (is.doubtful clean).within

-- What is kept of the arms of a front of the slots.
use Rattle.std.proofs.Common.{◌≡◌, ◌<◌, ◌≤◌, ◌+◌, ℕ, zero, suc, refl, Bool, true, false, Option, Some, None, List, [], length, get_or, ◌*◌, arith, sym, ap, ◌∙◌, subst, inl, inr}
use Rattle.std.specs.Prelude.{set, ◌↔◌, replicate}
use Rattle.std.proofs.Math.ListN.{get_or-eq_default}
use Rattle.std.proofs.lemmas.Bool.{cases_eq, cases_lt, false≢true}
use Rattle.std.proofs.lemmas.List.{get_or-set_same, get_or-set_other, length-set}
use Rattle.draid_names.specs.declared.arm.Arm.{Arm}
use Rattle.draid_chain.specs.Used.{first_in}
use Rattle.draid_spec.specs.declared.layout.Geometry.{Geometry}
use Rattle.draid_slots.specs.declared.moved.Places.{Places}
use Rattle.draid_chain.specs.Chain.{holder_in}
use Rattle.draid_chain.proofs.Holders.{holder_below}
use Rattle.draid_perm.specs.Perms.{children_of}
use Rattle.draid_slots.specs.Changes.{IsSame}
use Rattle.draid_slots.specs.Moves.{ArePlaces, HasMoved, Lies, kept_leaf, leaf_number, spare_leaf}
use Rattle.draid_slots.specs.Reading.{pool_slice}
use Rattle.draid_slots.proofs.Refusals.{some_same}
use Rattle.draid_slots.specs.Table.{SlotTable, arms_of, first_spare, first_spares}

pub record ArePlacesUpto (arms : List (List Arm)) (places : Places) (upto : ℕ) : Type 0 where
  pub used : (k : ℕ) → k < upto → first_in places.used k ≡ first_spare (get_or arms k [])
  pub rest : (k : ℕ) → upto ≤ k → first_in places.used k ≡ None
  pub leaves : (k : ℕ) → k < upto → leaf_number (get_or arms k []) ≡ Some (get_or places.leaves k 0)
  pub many : length places.used ≡ 64
  pub as_many : length places.leaves ≡ 64

pub all_places : (arms : List (List Arm)) (places : Places) (upto : ℕ) → length arms ≤ upto → ArePlacesUpto arms places upto → ArePlaces arms places
all_places arms places upto all are =
    record {
      used = λ slot. elim (cases_lt slot upto) [
        | inl below ↦ are.used slot below
        | inr past ↦ (let out : length arms ≤ slot = omega arith in are.rest slot past ∙ sym (ap first_spare (get_or-eq_default arms [] out)))
      ];
      leaves = λ slot within. are.leaves slot (omega arith);
      many = are.many;
    }

-- one slot more
pub places_more : (arms : List (List Arm)) (used : List (Option ℕ)) (leaves : List ℕ) (upto leaf : ℕ) (spare : Option ℕ) → upto < 64 → ArePlacesUpto arms (record { used = used; leaves = leaves }) upto
    → spare ≡ first_spare (get_or arms upto []) → leaf_number (get_or arms upto []) ≡ Some leaf
    → ArePlacesUpto arms (record { used = set used upto spare; leaves = set leaves upto leaf }) (upto + 1)
places_more arms used leaves upto leaf spare within are first number =
    record {
      used = λ k below. elim (cases_eq k upto) [
        | inl same ↦ ap (λ j. get_or (set used upto spare) j None) same ∙ get_or-set_same used upto spare None (let many = are.many in omega arith) ∙ first ∙ ap (λ j. first_spare (get_or arms j [])) (sym same)
        | inr other ↦ get_or-set_other used upto k spare None other ∙ are.used k (omega arith)
      ];
      rest = λ k past. get_or-set_other used upto k spare None (λ e. absurd (omega arith)) ∙ are.rest k (omega arith);
      leaves = λ k below. elim (cases_eq k upto) [
        | inl same ↦ ap (λ j. leaf_number (get_or arms j [])) same ∙ number
            ∙ ap Some (sym (ap (λ j. get_or (set leaves upto leaf) j 0) same ∙ get_or-set_same leaves upto leaf 0 (let many = are.as_many in omega arith)))
        | inr other ↦ are.leaves k (omega arith) ∙ ap Some (sym (get_or-set_other leaves upto k leaf 0 other))
      ];
      many = length-set used upto spare ∙ are.many;
      as_many = length-set leaves upto leaf ∙ are.as_many;
    }

abbrev no_spare : Option ℕ
no_spare = None

pub none_in : (n k : ℕ) → get_or (replicate n no_spare) k None ≡ None
none_in zero zero = refl
none_in zero (suc k) = refl
none_in (suc n) zero = refl
none_in (suc n) (suc k) = none_in n k

-- ---- the leaf on which a spare arm keeps a slice, by what is kept of the arms

pub kept_is : (table : SlotTable) (places : Places) (slot spare slice : ℕ) → ArePlaces table.arms places → children_of table.perms ≡ length table.arms
    → spare_leaf table slot spare slice ≡ Some (kept_leaf places table.perms table.geometry.spec.spares (pool_slice table slice) slot spare)
kept_is table places slot spare slice are many =
    let e : first_in places.used ≡ first_spares table = λ j k. are.used k j in
    let at = holder_in table.perms table.geometry.spec.spares (pool_slice table slice) (first_in places.used) slot spare in
    let low : at < children_of table.perms = holder_below table.perms table.geometry.spec.spares (pool_slice table slice) slot spare (first_in places.used) in
    ap (λ f. leaf_number (arms_of table (holder_in table.perms table.geometry.spec.spares (pool_slice table slice) f slot spare))) (sym e)
    ∙ are.leaves at (omega arith)

kept_before : (old new : SlotTable) (places : Places) (slot spare slice : ℕ) → IsSame old new → ArePlaces old.arms places → children_of new.perms ≡ length old.arms
    → spare_leaf old slot spare slice ≡ Some (kept_leaf places new.perms new.geometry.spec.spares (pool_slice new slice) slot spare)
kept_before old new places slot spare slice same are many =
    let p : children_of old.perms ≡ length old.arms = ap children_of (sym same.perms_are) ∙ many in
    kept_is old places slot spare slice are p
    ∙ ap (λ perms. Some (kept_leaf places perms old.geometry.spec.spares (pool_slice old slice) slot spare)) (sym same.perms_are)
    ∙ ap (λ (g : Geometry). Some (kept_leaf places new.perms g.spec.spares (old.metaslab * g.props.slices + slice) slot spare)) (sym same.geometry_is)
    ∙ ap (λ m. Some (kept_leaf places new.perms new.geometry.spec.spares (m * new.geometry.props.slices + slice) slot spare)) (sym same.metaslab_is)

pub moved_lies : (old new : SlotTable) (before now : Places) (spare : ℕ) → IsSame old new → ArePlaces old.arms before → ArePlaces new.arms now
    → children_of new.perms ≡ length old.arms → children_of new.perms ≡ length new.arms → HasMoved old new spare → Lies before now new spare
moved_lies old new before now spare same were are many_old many_new moved =
    record {
      slot = moved.slot;
      slice = moved.slice;
      arm_is = moved.arm_is;
      slice_is = moved.slice_is;
      elsewhere = record {
        column = moved.column;
        differs = λ e. moved.differs (kept_before old new before moved.slot spare moved.slice same were many_old ∙ ap Some e ∙ sym (kept_is new now moved.slot spare moved.slice are many_new));
      };
    }

pub lies_moved : (old new : SlotTable) (before now : Places) (spare : ℕ) → IsSame old new → ArePlaces old.arms before → ArePlaces new.arms now
    → children_of new.perms ≡ length old.arms → children_of new.perms ≡ length new.arms → Lies before now new spare → HasMoved old new spare
lies_moved old new before now spare same were are many_old many_new lies =
    record {
      slot = lies.slot;
      slice = lies.slice;
      arm_is = lies.arm_is;
      slice_is = lies.slice_is;
      column = lies.elsewhere.column;
      differs = λ e. lies.elsewhere.differs (some_same _ _ (sym (kept_before old new before lies.slot spare lies.slice same were many_old) ∙ e ∙ kept_is new now lies.slot spare lies.slice are many_new));
    }

-- ---- which spares moved, for a front of them

pub record AreMoved (before now : Places) (table : SlotTable) (flags : List Bool) (upto : ℕ) : Type 0 where
  pub many : length flags ≡ 4
  pub moved : (spare : ℕ) → spare < upto → get_or flags spare false ≡ true → Lies before now table spare
  pub stays : (spare : ℕ) → spare < upto → get_or flags spare false ≡ false → ¬ (Lies before now table spare)
  pub rest : (spare : ℕ) → upto ≤ spare → get_or flags spare false ≡ false

pub false_in : (n k : ℕ) → get_or (replicate n false) k false ≡ false
false_in zero zero = refl
false_in zero (suc k) = refl
false_in (suc n) zero = refl
false_in (suc n) (suc k) = false_in n k

pub moved_more : (before now : Places) (table : SlotTable) (old : List Bool) (upto : ℕ) (b : Bool) → upto < 4 → AreMoved before now table old upto
    → (b ≡ true → Lies before now table upto) → (b ≡ false → ¬ (Lies before now table upto)) → AreMoved before now table (set old upto b) (upto + 1)
moved_more before now table old upto b within are moves stays =
    record {
      many = length-set old upto b ∙ are.many;
      moved = λ spare below h. elim (cases_eq spare upto) [
        | inl same ↦
            let L : ℕ → Type 0 = λ n. Lies before now table n in
            let here : b ≡ true = sym (get_or-set_same old upto b false (let many = are.many in omega arith)) ∙ ap (λ n. get_or (set old upto b) n false) (sym same) ∙ h in
            subst L (sym same) (moves here)
        | inr other ↦ are.moved spare (omega arith) (sym (get_or-set_other old upto spare b false other) ∙ h)
      ];
      stays = λ spare below h. elim (cases_eq spare upto) [
        | inl same ↦
            let L : ℕ → Type 0 = λ n. ¬ (Lies before now table n) in
            let here : b ≡ false = sym (get_or-set_same old upto b false (let many = are.many in omega arith)) ∙ ap (λ n. get_or (set old upto b) n false) (sym same) ∙ h in
            subst L (sym same) (stays here)
        | inr other ↦ are.stays spare (omega arith) (sym (get_or-set_other old upto spare b false other) ∙ h)
      ];
      rest = λ spare past. get_or-set_other old upto spare b false (λ e. absurd (omega arith)) ∙ are.rest spare (omega arith);
    }

true_false : (P : Type 0) (b : Bool) → b ≡ true → b ≡ false → P
true_false P b t f = absurd (false≢true (sym f ∙ t))

by_value : (P : Type 0) (b : Bool) → (b ≡ true → P) → (b ≡ false → P) → P
by_value P true f g = f refl
by_value P false f g = g refl

-- the flags say just which moved
pub flags_say : (before now : Places) (table : SlotTable) (moved : List Bool) (spares spare : ℕ) → AreMoved before now table moved spares → (Lies before now table spare → spare < spares)
    → (get_or moved spare false ≡ true) ↔ Lies before now table spare
flags_say before now table moved spares spare are known = (
  (λ h. elim (cases_lt spare spares) [
    | inl below ↦ are.moved spare below h
    | inr past ↦ true_false _ (get_or moved spare false) h (are.rest spare past)
  ]),
  (λ lies. by_value _ (get_or moved spare false) (λ t. t) (λ f. absurd (are.stays spare (known lies) f lies))),
)

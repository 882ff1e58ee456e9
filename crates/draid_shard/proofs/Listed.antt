-- The arms of a block that answer, as a list, are just those, each once.
use Rattle.std.proofs.Common.{◌≡◌, ◌↔◌, ◌⊎◌, ◌+◌, ◌<◌, ◌≤◌, ◌++◌, ◌∷◌, ◌∙◌, [], ℕ, zero, suc, Bool, true, false, not, List, Option, None, Some, arith, refl, sym, ap, subst, inl, inr, drop, length, option_map, slice_get}
use Rattle.std.proofs.lemmas.Bool.{cases_eq}
use Rattle.std.proofs.lemmas.List.{append_assoc}
use Rattle.draid_names.specs.declared.arm.Arm.{Arm}
use Rattle.draid_names.specs.declared.arm.ArmAt.{ArmAt}
use Rattle.draid_spec.specs.Geometry.{slice_at}
use Rattle.draid_names.specs.declared.pointer.Pointer.{Pointer}
use Rattle.draid_rack.specs.Rack.{Shape}
use Rattle.draid_machine.specs.declared.names.ArmName.{ArmName}
use Rattle.draid_machine.proofs.Small.{absurd_test, some_same}
use Rattle.draid_slots.specs.Reading.{holder, is_online}
use Rattle.draid_slots.specs.States.{name_of}
use Rattle.draid_slots.specs.Table.{SlotTable, arm_at, arms_of, is_logged}
use Rattle.draid_shard.specs.Fits.{NamesOnce}
use Rattle.draid_shard.specs.Part.{Part}
use Rattle.draid_shard.specs.Rows.{FitsRows, IsRowsOf, answers_on, arm_no, name_on}
use Rattle.draid_shard.specs.declared.loan.Spot.{Spot}
use Rattle.draid_shard.specs.declared.places.ColumnRows.{ColumnRows}
use Rattle.draid_shard.proofs.Answering.{named_arm}
use Rattle.draid_shard.specs.Spots.{AnswersClean, CleanAmong, CleanBelow, HasSpot, LiesIn, SpotOn, SpotsOf, rows_at, spot_if, spots_below, spots_from, spots_in}

-- ---- lists

-- an element of one list, or of the one behind it
abbrev pub IsAmong : {X : Type 0} → List X → List X → ℕ → X → Type 0
IsAmong xs ys j x = (slice_get xs j ≡ Some x) ⊎ ((i : ℕ) × (j ≡ length xs + i) × (slice_get ys i ≡ Some x))

pub get_cases : {X : Type 0} (xs ys : List X) (j : ℕ) (x : X) → slice_get (xs ++ ys) j ≡ Some x → IsAmong xs ys j x
get_cases [] ys j x is = inr (j, omega arith, is)
get_cases (y ∷ xs) ys zero x is = inl is
get_cases (y ∷ xs) ys (suc j) x is = elim (get_cases xs ys j x is) [
  | inl here ↦ inl here
  | inr z ↦ inr (z.0, (let e = z.1 in omega (arith, e)), z.2)
]

pub get_left : {X : Type 0} (xs ys : List X) (j : ℕ) (x : X) → slice_get xs j ≡ Some x → slice_get (xs ++ ys) j ≡ Some x
get_left [] ys j x is = absurd (cc)
get_left (y ∷ xs) ys zero x is = is
get_left (y ∷ xs) ys (suc j) x is = get_left xs ys j x is

pub get_right : {X : Type 0} (xs ys : List X) (j : ℕ) (x : X) → slice_get ys j ≡ Some x → slice_get (xs ++ ys) (length xs + j) ≡ Some x
get_right [] ys j x is = subst (λ n. slice_get ys n ≡ Some x) (let same : j ≡ 0 + j = omega arith in same) is
get_right (y ∷ xs) ys j x is = subst (λ n. slice_get (y ∷ (xs ++ ys)) n ≡ Some x) (let same : suc (length xs + j) ≡ length (y ∷ xs) + j = omega arith in same) (get_right xs ys j x is)

-- the element at a place, and what is from there on
pub get_drop : {X : Type 0} (xs : List X) (k : ℕ) → k < length xs → (x : X) × (slice_get xs k ≡ Some x) × (drop k xs ≡ x ∷ drop (k + 1) xs)
get_drop [] k less = absurd (omega (arith, less))
get_drop (x ∷ xs) zero less = (x, refl, refl)
get_drop (x ∷ xs) (suc k) less =
    let z = get_drop xs k (omega (arith, less)) in
    (z.0, z.1, z.2 ∙ ap (λ n. z.0 ∷ drop n (x ∷ xs)) (let same : suc (k + 1) ≡ suc k + 1 = omega arith in same))

-- ---- a test of one more

pub still_true : (now answered : Bool) (P Q R : Type 0) → now ≡ answered → P → (answered ≡ true) ↔ Q → (Q → P → R) → (R → Q) → (now ≡ true) ↔ R
still_true now answered P Q R is p was more less = ((λ yes. more (was.0 (sym is ∙ yes)) p), (λ r. is ∙ was.1 (less r)))

pub now_false : (now result : Bool) (P R : Type 0) → now ≡ false → result ≡ false → (result ≡ true) ↔ P → (R → P) → (now ≡ true) ↔ R
now_false now result P R is fails was has = ((λ yes. absurd_test now yes is), (λ r. absurd_test result (was.1 (has r)) fails))

-- ---- one column

-- the rows of a column are those of its number
pub rows_are_at : (part : Part) (pointer : Pointer) (c : ℕ) (rows : ColumnRows) → IsRowsOf part pointer c rows → rows ≡ rows_at part pointer c
rows_are_at part pointer c rows of = λ i. record {
  slot = of.slot_is i;
  slice = (of.slice_is ∙ ap (λ f. slice_at part.geometry f) of.first_is) i;
  first = of.first_is i;
  count = of.count_is i;
  size = of.size_is i;
  birth = of.birth_is i;
}

abbrev pub spot_at : ColumnRows → ℕ → Bool → Arm → Arm → Spot
spot_at rows c clean arm leaf = record { column = c; arm = name_of arm; leaf = leaf.number; first = rows.first; clean = clean }

module _ (slots : SlotTable) (rows : ColumnRows) (c : ℕ) where
  abbrev clean_at : ℕ → Bool
  clean_at k = not (is_logged slots (arm_no rows k) rows.birth)

  abbrev here : ℕ → Arm → List Spot
  here k a = spot_if rows c (answers_on slots rows k) (clean_at k) a (holder slots (arm_no rows k) rows.slice)

  -- one more arm
  pub listed_more : (now new all : List Spot) (k : ℕ) → k < length (arms_of slots rows.slot)
      → ((a : Arm) → arm_at slots (arm_no rows k) ≡ Some a → new ≡ now ++ here k a)
      → now ++ spots_from slots rows c k (drop k (arms_of slots rows.slot)) ≡ all → new ++ spots_from slots rows c (k + 1) (drop (k + 1) (arms_of slots rows.slot)) ≡ all
  listed_more now new all k less adds was =
      let z = get_drop (arms_of slots rows.slot) k less in
      ap (λ list. list ++ spots_from slots rows c (k + 1) (drop (k + 1) (arms_of slots rows.slot))) (adds z.0 z.1)
      ∙ append_assoc now (here k z.0) (spots_from slots rows c (k + 1) (drop (k + 1) (arms_of slots rows.slot)))
      ∙ ap (λ arms. now ++ spots_from slots rows c k arms) (sym z.2) ∙ was

  -- the arms are those of the slot from a place on
  abbrev pub StandFrom : ℕ → List Arm → Type 0
  StandFrom k arms = (i : ℕ) (a : Arm) → slice_get arms i ≡ Some a → arm_at slots (arm_no rows (k + i)) ≡ Some a

  pub stand_behind : (k : ℕ) (a : Arm) (arms : List Arm) → StandFrom k (a ∷ arms) → StandFrom (k + 1) arms
  stand_behind k a arms stand i b at = subst (λ n. arm_at slots (arm_no rows n) ≡ Some b) (let same : k + suc i ≡ k + 1 + i = omega arith in same) (stand (suc i) b at)

  pub stand_here : (k : ℕ) (a : Arm) (arms : List Arm) → StandFrom k (a ∷ arms) → arm_at slots (arm_no rows k) ≡ Some a
  stand_here k a arms stand = subst (λ n. arm_at slots (arm_no rows n) ≡ Some a) (let same : k + 0 ≡ k = omega arith in same) (stand zero a refl)

  -- it is that of an arm behind a place
  pub record ComesOf (k : ℕ) (spot : Spot) : Type 0 where
    pub m : ℕ
    pub a : Arm
    pub leaf : Arm
    pub from : k ≤ m
    pub there : arm_at slots (arm_no rows m) ≡ Some a
    pub holds : holder slots (arm_no rows m) rows.slice ≡ Some leaf
    pub answers : answers_on slots rows m ≡ true
    pub is : spot ≡ spot_at rows c (clean_at m) a leaf

  come_before : (k : ℕ) (spot : Spot) → ComesOf (k + 1) spot → ComesOf k spot
  come_before k spot z = record { m = z.m; a = z.a; leaf = z.leaf; from = (let from = z.from in omega (arith, from)); there = z.there; holds = z.holds; answers = z.answers; is = z.is }

  comes_here : (k : ℕ) (a : Arm) → arm_at slots (arm_no rows k) ≡ Some a → (j : ℕ) (spot : Spot) → slice_get (here k a) j ≡ Some spot → (j ≡ 0) × ComesOf k spot × (spot.arm ≡ name_of a)
  comes_here k a there j spot at = by (holder slots (arm_no rows k) rows.slice) refl (answers_on slots rows k) refl at
    where
      only : (x : Spot) (j : ℕ) → slice_get (x ∷ []) j ≡ Some spot → (j ≡ 0) × (spot ≡ x)
      only x zero is = (refl, some_same (Some x) spot x is refl)
      only x (suc j) is = absurd (cc)

      by : (o : Option Arm) → holder slots (arm_no rows k) rows.slice ≡ o → (b : Bool) → answers_on slots rows k ≡ b → slice_get (spot_if rows c b (clean_at k) a o) j ≡ Some spot
          → (j ≡ 0) × ComesOf k spot × (spot.arm ≡ name_of a)
      by None holds b answers is = absurd (cc)
      by (Some leaf) holds false answers is = absurd (cc)
      by (Some leaf) holds true answers is =
          let z = only (spot_at rows c (clean_at k) a leaf) j is in
          (z.0, record { m = k; a = a; leaf = leaf; from = omega arith; there = there; holds = holds; answers = answers; is = z.1 }, ap (λ (s : Spot). s.arm) z.1)

  pub comes : (k : ℕ) (arms : List Arm) → StandFrom k arms → (j : ℕ) (spot : Spot) → slice_get (spots_from slots rows c k arms) j ≡ Some spot → ComesOf k spot
  comes k [] stand j spot at = absurd (cc)
  comes k (a ∷ arms) stand j spot at = elim (get_cases (here k a) (spots_from slots rows c (k + 1) arms) j spot at) [
    | inl first ↦ (comes_here k a (stand_here k a arms stand) j spot first).1
    | inr z ↦ come_before k spot (comes (k + 1) arms (stand_behind k a arms stand) z.0 spot z.2)
  ]

  -- each arm that answers is among them
  there_is : (k : ℕ) (a : Arm) (rest : List Spot) → answers_on slots rows k ≡ true → HasSpot (here k a ++ rest) c (name_of a)
  there_is k a rest answers = by (holder slots (arm_no rows k) rows.slice) answers
    where
      by : (o : Option Arm) → is_online o ≡ true → HasSpot (spot_if rows c (is_online o) (clean_at k) a o ++ rest) c (name_of a)
      by None is = absurd_test false is refl
      by (Some leaf) is = subst (λ b. HasSpot (spot_if rows c b (clean_at k) a (Some leaf) ++ rest) c (name_of a)) (sym is)
          (record { k = zero; spot = spot_at rows c (clean_at k) a leaf; there = refl; column_is = refl; arm_is = refl })

  pub has_right : (xs ys : List Spot) (n : ArmName) → HasSpot ys c n → HasSpot (xs ++ ys) c n
  has_right xs ys n z = record { k = length xs + z.k; spot = z.spot; there = get_right xs ys z.k z.spot z.there; column_is = z.column_is; arm_is = z.arm_is }

  pub has_left : (xs ys : List Spot) (n : ArmName) → HasSpot xs c n → HasSpot (xs ++ ys) c n
  has_left xs ys n z = record { k = z.k; spot = z.spot; there = get_left xs ys z.k z.spot z.there; column_is = z.column_is; arm_is = z.arm_is }

  pub all_from : (k : ℕ) (arms : List Arm) (i : ℕ) (a : Arm) → slice_get arms i ≡ Some a → answers_on slots rows (k + i) ≡ true → HasSpot (spots_from slots rows c k arms) c (name_of a)
  all_from k [] i a at answers = absurd (cc)
  all_from k (b ∷ arms) zero a at answers =
      subst (λ x. HasSpot (here k b ++ spots_from slots rows c (k + 1) arms) c (name_of x)) (some_same (Some b) b a refl at)
      (there_is k b (spots_from slots rows c (k + 1) arms) (subst (λ n. answers_on slots rows n ≡ true) (let same : k + 0 ≡ k = omega arith in same) answers))
  all_from k (b ∷ arms) (suc i) a at answers =
      has_right (here k b) (spots_from slots rows c (k + 1) arms) (name_of a)
      (all_from (k + 1) arms i a at (subst (λ n. answers_on slots rows n ≡ true) (let same : k + suc i ≡ k + 1 + i = omega arith in same) answers))

  -- none is there twice
  module _ (once : NamesOnce slots) where
    clash : {X : Type 0} (k : ℕ) (a : Arm) → arm_at slots (arm_no rows k) ≡ Some a → (spot : Spot) → ComesOf (k + 1) spot → name_of a ≡ spot.arm → X
    clash k a there spot z same = absurd (
        let names : name_of a ≡ name_of z.a = same ∙ ap (λ (s : Spot). s.arm) z.is in
        let place = ap (λ (at : ArmAt). at.arm) (once.arms (arm_no rows k) (arm_no rows z.m) a z.a there z.there names) in
        let from = z.from in
        omega (arith, place, from))

    pub once_from : (k : ℕ) (arms : List Arm) → StandFrom k arms → (i j : ℕ) (x y : Spot) → slice_get (spots_from slots rows c k arms) i ≡ Some x → slice_get (spots_from slots rows c k arms) j ≡ Some y
        → x.arm ≡ y.arm → i ≡ j
    once_from k [] stand i j x y at there same = absurd (cc)
    once_from k (a ∷ arms) stand i j x y at there same =
        by (λ m n first second. once_from (k + 1) arms (stand_behind k a arms stand) m n x y first second same) (get_cases (here k a) rest i x at) (get_cases (here k a) rest j y there)
      where
        rest : List Spot
        rest = spots_from slots rows c (k + 1) arms

        own : arm_at slots (arm_no rows k) ≡ Some a
        own = stand_here k a arms stand

        behind : StandFrom (k + 1) arms
        behind = stand_behind k a arms stand

        by : ((m n : ℕ) → slice_get rest m ≡ Some x → slice_get rest n ≡ Some y → m ≡ n) → IsAmong (here k a) rest i x → IsAmong (here k a) rest j y → i ≡ j
        by later (inl p) (inl q) = (comes_here k a own i x p).0 ∙ sym (comes_here k a own j y q).0
        by later (inl p) (inr q) = clash k a own y (comes (k + 1) arms behind q.0 y q.2) (sym (comes_here k a own i x p).2 ∙ same)
        by later (inr p) (inl q) = clash k a own x (comes (k + 1) arms behind p.0 x p.2) (sym (comes_here k a own j y q).2 ∙ sym same)
        by later (inr p) (inr q) = p.1 ∙ ap (λ n. length (here k a) + n) (later p.0 q.0 p.2 q.2) ∙ sym q.1

  -- no arm yet, and one more
  pub clean_none : CleanAmong slots rows 0
  clean_none k less = absurd (omega (arith, less))

  pub clean_more : (k : ℕ) → CleanAmong slots rows k → AnswersClean slots rows k → CleanAmong slots rows (k + 1)
  clean_more k was now j less = elim (cases_eq j k) [
    | inl same ↦ subst (AnswersClean slots rows) (sym same) now
    | inr other ↦ was j (omega (arith, less, other))
  ]

  pub clean_less : (k : ℕ) → CleanAmong slots rows (k + 1) → CleanAmong slots rows k
  clean_less k was j less = was j (omega (arith, less))

-- ---- all columns

module _ (part : Part) (slots : SlotTable) (pointer : Pointer) (once : NamesOnce slots) where
  abbrev rows : ℕ → ColumnRows
  rows c = rows_at part pointer c

  abbrev own : ℕ → List Spot
  own c = spots_in slots (rows c) c

  stand : (c : ℕ) → StandFrom slots (rows c) c 0 (arms_of slots (rows c).slot)
  stand c i a at = subst (λ n. arm_at slots (arm_no (rows c) n) ≡ Some a) (let same : i ≡ 0 + i = omega arith in same) at

  -- each is that of an arm of a column
  pub record IsListed (count : ℕ) (spot : Spot) : Type 0 where
    pub c : ℕ
    pub below : c < count
    pub comes : ComesOf slots (rows c) c 0 spot

  listed_in : (count j : ℕ) (spot : Spot) → slice_get (spots_below part slots pointer count) j ≡ Some spot → IsListed count spot
  listed_in zero j spot at = absurd (cc)
  listed_in (suc count) j spot at = elim (get_cases (spots_below part slots pointer count) (own count) j spot at) [
    | inl before ↦ (let z = listed_in count j spot before in record { c = z.c; below = (let less = z.below in omega (arith, less)); comes = z.comes })
    | inr z ↦ record { c = count; below = omega arith; comes = comes slots (rows count) count 0 (arms_of slots (rows count).slot) (stand count) z.0 spot z.2 }
  ]

  column_of : (count : ℕ) (spot : Spot) (z : IsListed count spot) → spot.column ≡ z.c
  column_of count spot z = ap (λ (s : Spot). s.column) z.comes.is

  pub columns_low : (count j : ℕ) (spot : Spot) → slice_get (spots_below part slots pointer count) j ≡ Some spot → spot.column < count
  columns_low count j spot at = let z = listed_in count j spot at in let same = column_of count spot z in let less = z.below in omega (arith, same, less)

  columns_own : (c j : ℕ) (spot : Spot) → slice_get (own c) j ≡ Some spot → spot.column ≡ c
  columns_own c j spot at = ap (λ (s : Spot). s.column) (comes slots (rows c) c 0 (arms_of slots (rows c).slot) (stand c) j spot at).is

  spot_on : (spot : Spot) → IsListed part.geometry.g spot → SpotOn part slots pointer spot
  spot_on spot z =
      let o = z.comes in
      subst (SpotOn part slots pointer) (sym o.is) (record {
        k = o.m;
        arm = o.a;
        column = z.below;
        there = o.there;
        arm_is = refl;
        lies = ap (option_map (λ (a : Arm). a.number)) o.holds;
        answers = o.answers;
        clean = refl;
        first = refl;
      })

  all_below : (count c k : ℕ) (n : ArmName) → c < count → name_on slots (rows c) k ≡ Some n → answers_on slots (rows c) k ≡ true → HasSpot (spots_below part slots pointer count) c n
  all_below zero c k n less named answers = absurd (omega (arith, less))
  all_below (suc count) c k n less named answers = elim (cases_eq c count) [
    | inl same ↦ subst (λ d. HasSpot (spots_below part slots pointer count ++ own d) c n) same (
        let a = named_arm slots (rows c) k n named in
        has_right slots (rows c) c (spots_below part slots pointer count) (own c) n
        (subst (HasSpot (own c) c) a.2 (all_from slots (rows c) c 0 (arms_of slots (rows c).slot) k a.0 a.1 (subst (λ n. answers_on slots (rows c) n ≡ true) (let same : k ≡ 0 + k = omega arith in same) answers))))
    | inr other ↦ has_left slots (rows c) c (spots_below part slots pointer count) (own count) n (all_below count c k n (omega (arith, less, other)) named answers)
  ]

  once_below : (count i j : ℕ) (x y : Spot) → slice_get (spots_below part slots pointer count) i ≡ Some x → slice_get (spots_below part slots pointer count) j ≡ Some y → x.column ≡ y.column → x.arm ≡ y.arm
      → i ≡ j
  once_below zero i j x y at there column arm = absurd (cc)
  once_below (suc count) i j x y at there column arm = by (λ first second. once_below count i j x y first second column arm) (get_cases before (own count) i x at) (get_cases before (own count) j y there)
    where
      before : List Spot
      before = spots_below part slots pointer count

      by : (slice_get before i ≡ Some x → slice_get before j ≡ Some y → i ≡ j) → IsAmong before (own count) i x → IsAmong before (own count) j y → i ≡ j
      by earlier (inl p) (inl q) = earlier p q
      by earlier (inl p) (inr q) = absurd (let low = columns_low count i x p in let here = columns_own count q.0 y q.2 in omega (arith, low, here, column))
      by earlier (inr p) (inl q) = absurd (let low = columns_low count j y q in let here = columns_own count p.0 x p.2 in omega (arith, low, here, column))
      by earlier (inr p) (inr q) = p.1 ∙ ap (λ n. length before + n) (once_from slots (rows count) count once 0 (arms_of slots (rows count).slot) (stand count) p.0 q.0 x y p.2 q.2 arm) ∙ sym q.1

  pub spots_are : (spots : List Spot) → spots ≡ spots_below part slots pointer part.geometry.g → SpotsOf part slots pointer spots
  spots_are spots is = subst (SpotsOf part slots pointer) (sym is) (record {
    each = λ j spot at. spot_on spot (listed_in part.geometry.g j spot at);
    all = all_below part.geometry.g;
    once = once_below part.geometry.g;
  })

  -- no column yet, and one more
  pub clean_columns : (c : ℕ) (rows_of : ColumnRows) → rows_of ≡ rows c → CleanBelow part slots pointer c → CleanAmong slots rows_of (length (arms_of slots rows_of.slot)) → CleanBelow part slots pointer (c + 1)
  clean_columns c rows_of is was now d k less there lacks = elim (cases_eq d c) [
    | inl same ↦ (let all = subst (λ (r : ColumnRows). CleanAmong slots r (length (arms_of slots r.slot))) (is ∙ ap rows (sym same)) now in all k there lacks)
    | inr other ↦ was d k (omega (arith, less, other)) there lacks
  ]

  pub fewer_columns : (c : ℕ) → CleanBelow part slots pointer (c + 1) → CleanBelow part slots pointer c
  fewer_columns c was d k less = was d k (omega (arith, less))

  pub last_column : (c : ℕ) (rows_of : ColumnRows) → rows_of ≡ rows c → CleanBelow part slots pointer (c + 1) → CleanAmong slots rows_of (length (arms_of slots rows_of.slot))
  last_column c rows_of is was =
      let here : CleanAmong slots (rows c) (length (arms_of slots (rows c).slot)) = λ k there lacks. was c k (omega arith) there lacks in
      subst (λ (r : ColumnRows). CleanAmong slots r (length (arms_of slots r.slot))) (sym is) here

-- the rows of a column lie on its slot
pub lies_in : (shape : Shape) (slots : SlotTable) (rows : ColumnRows) → FitsRows shape slots rows → LiesIn slots rows
lies_in shape slots rows fits = record {
  slot = fits.slot_below;
  slice = fits.slice_below;
  first = (let some = fits.some in let inside = fits.inside in omega (arith, some, inside));
  slice_is = fits.slice_is;
}

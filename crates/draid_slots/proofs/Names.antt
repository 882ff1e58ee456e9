-- Changes that leave the kind and the number of each arm.
use Rattle.std.proofs.Common.{◌≡◌, ℕ, zero, suc, ◌<◌, Bool, true, false, List, [], ◌∷◌, map, length, get_or, set, arith, refl, ap, ap₂, sym, ◌∙◌, subst, inl, inr, Option, Some, None}
use Rattle.std.specs.Prelude.{All, cond, ◌==◌, ◌&&◌, ◌||◌, if◌then◌else◌, slice_get}
use Rattle.std.specs.List.{list_any}
use Rattle.std.specs.Option.{option_map}
use Rattle.std.proofs.Math.Seq.{map-set_same}
use Rattle.std.proofs.lemmas.Bool.{cases_eq, cases_lt}
use Rattle.std.proofs.lemmas.Bool.Decides.{nat_tests}
use Rattle.std.proofs.lemmas.List.{get_or-map, get_or-set_same, get_or-set_other, length-map, length-set, get_or_default}
use Rattle.std.proofs.lemmas.Option.{slice_get-get_or, slice_get-map, slice_get_past}
use Rattle.draid_names.specs.declared.arm.Arm.{Arm}
use Rattle.draid_names.specs.declared.arm.ArmAt.{ArmAt}
use Rattle.draid_names.specs.declared.arm.ArmKind.{ArmKind}
use Rattle.draid_spec.specs.declared.layout.Geometry.{Geometry}
use Rattle.draid_slots.specs.declared.slot.Detached.{Detached}
use Rattle.draid_slots.specs.Changes.{freshened, switched_arm}
use Rattle.draid_slots.specs.Table.{AreSlots, IsSlot, has_leaf, has_spare, holds_in, is_at, is_leaf, is_leaf_kind, is_leaf_of, is_spare_kind, is_spare_of, was_spare_of}

pub name : Arm → ArmKind × ℕ
name arm = (arm.kind, arm.number)

pub freshened_name : (arm : Arm) (fresh : Bool) → name (record arm { fresh = fresh }) ≡ name arm
unfolding name
freshened_name arm fresh = refl

pub record SameNames (old new : List (List Arm)) : Type 0 where
  pub count : length new ≡ length old
  pub names : (slot : ℕ) → map name (get_or new slot []) ≡ map name (get_or old slot [])

any_named : (p : Arm → Bool) (q : ArmKind × ℕ → Bool) → ((arm : Arm) → p arm ≡ q (name arm)) → (arms : List Arm) → list_any p arms ≡ list_any q (map name arms)
unfolding name
any_named p q same [] = refl
any_named p q same (arm ∷ arms) = ap₂ (λ a b. a || b) (same arm) (any_named p q same arms)

any_kept : (p : Arm → Bool) (q : ArmKind × ℕ → Bool) → ((arm : Arm) → p arm ≡ q (name arm)) → (xs ys : List Arm) → map name ys ≡ map name xs → list_any p ys ≡ list_any p xs
any_kept p q same xs ys names = any_named p q same ys ∙ ap (λ ns. list_any q ns) names ∙ sym (any_named p q same xs)

leaf_kept : (xs ys : List Arm) → map name ys ≡ map name xs → has_leaf ys ≡ has_leaf xs
unfolding name
leaf_kept xs ys names = any_kept is_leaf (λ n. is_leaf_kind n.0) (λ arm. refl) xs ys names

pub spare_kept : (xs ys : List Arm) (spare : ℕ) → map name ys ≡ map name xs → has_spare ys spare ≡ has_spare xs spare
unfolding name
spare_kept xs ys spare names = any_kept (is_spare_of spare) (λ n. is_spare_kind n.0 && (n.1 == spare)) (λ arm. refl) xs ys names

pooled_kept : (spares : ℕ) (xs ys : List Arm) → map name ys ≡ map name xs → All (λ (arm : Arm). is_spare_kind arm.kind ≡ true → arm.number < spares) xs
    → All (λ (arm : Arm). is_spare_kind arm.kind ≡ true → arm.number < spares) ys
unfolding name
pooled_kept spares xs ys names all k d below =
    let long : length ys ≡ length xs = sym (length-map ys name) ∙ ap length names ∙ length-map xs name in
    let same : name (get_or ys k d) ≡ name (get_or xs k d) =
    sym (get_or-map name ys k d (name d) below) ∙ ap (λ ns. get_or ns k (name d)) names ∙ get_or-map name xs k d (name d) (omega arith) in
    let P : ArmKind × ℕ → Type 0 = λ n. is_spare_kind n.0 ≡ true → n.1 < spares in
    subst P (sym same) (all k d (omega arith))

slot_kept : (spares : ℕ) (xs ys : List Arm) → map name ys ≡ map name xs → IsSlot spares xs → IsSlot spares ys
slot_kept spares xs ys names is =
    let long : length ys ≡ length xs = sym (length-map ys name) ∙ ap length names ∙ length-map xs name in
    record {
      most = (let most = is.most in omega arith);
      leaf = leaf_kept xs ys names ∙ is.leaf;
      pooled = pooled_kept spares xs ys names is.pooled;
    }

pub holds_kept : (old new : List (List Arm)) (detached : List Detached) → SameNames old new → (spare slot : ℕ) → holds_in new detached spare slot ≡ holds_in old detached spare slot
holds_kept old new detached same spare slot =
    ap (λ b. b || was_spare_of detached spare slot) (spare_kept (get_or old slot []) (get_or new slot []) spare (same.names slot))

pub slots_kept : (geometry : Geometry) (old new : List (List Arm)) (detached : List Detached) → SameNames old new → AreSlots geometry old detached → AreSlots geometry new detached
slots_kept geometry old new detached same are =
    record {
      children = same.count ∙ are.children;
      each = λ k d below.
          let many = same.count in
          let first = get_or_default new k d [] below in
          let P : List Arm → Type 0 = λ arms. IsSlot geometry.spec.spares arms in
          subst P (sym first) (slot_kept geometry.spec.spares (get_or old k []) (get_or new k []) (same.names k) (are.each k [] (omega arith)));
      once = λ spare slot other h g. are.once spare slot other (sym (holds_kept old new detached same spare slot) ∙ h) (sym (holds_kept old new detached same spare other) ∙ g);
    }

-- ---- one arm is replaced by one of its name

pub one_named : (arms : List (List Arm)) (at : ArmAt) (old : List Arm) (arm was : Arm) → at.slot < length arms → get_or arms at.slot [] ≡ old → name arm ≡ name was → was ≡ get_or old at.arm was
    → SameNames arms (set arms at.slot (set old at.arm arm))
one_named arms at old arm was l here same is =
    record {
      count = length-set arms at.slot (set old at.arm arm);
      names = λ slot. elim (cases_eq slot at.slot) [
        | inl equal ↦
            ap (λ j. map name (get_or (set arms at.slot (set old at.arm arm)) j [])) equal
            ∙ ap (map name) (get_or-set_same arms at.slot (set old at.arm arm) [] l)
            ∙ map-set_same name old at.arm arm was (same ∙ ap name is)
            ∙ ap (map name) (sym here ∙ ap (λ j. get_or arms j []) (sym equal))
        | inr differs ↦ ap (map name) (get_or-set_other arms at.slot slot (set old at.arm arm) [] differs)
      ];
    }

slice_get_same : {X : Type 0} (xs ys : List X) (i : ℕ) → length ys ≡ length xs → ((d : X) → get_or ys i d ≡ get_or xs i d) → slice_get ys i ≡ slice_get xs i
slice_get_same [] [] i long same = refl
slice_get_same (x ∷ xs) ys i long same = elim (cases_lt i (length ys)) [
  | inl l ↦ slice_get-get_or ys i x l ∙ ap Some (same x) ∙ sym (slice_get-get_or (x ∷ xs) i x (omega arith))
  | inr g ↦ slice_get_past ys i g ∙ sym (slice_get_past (x ∷ xs) i (omega arith))
]
slice_get_same [] (y ∷ ys) i long same = absurd (omega arith)

pub one_arm : (arms : List (List Arm)) (at other : ArmAt) (old : List Arm) (arm : Arm) → at.slot < length arms → get_or arms at.slot [] ≡ old → at.arm < length old
    → slice_get (get_or (set arms at.slot (set old at.arm arm)) other.slot []) other.arm ≡ (if is_at at other then Some arm else slice_get (get_or arms other.slot []) other.arm)
one_arm arms at other old arm l was there = elim (cases_eq other.slot at.slot) [
  | inl same ↦
      let here : get_or (set arms at.slot (set old at.arm arm)) other.slot [] ≡ set old at.arm arm =
      ap (λ j. get_or (set arms at.slot (set old at.arm arm)) j []) same ∙ get_or-set_same arms at.slot (set old at.arm arm) [] l in
      let before : get_or arms other.slot [] ≡ old = ap (λ j. get_or arms j []) same ∙ was in
      elim (cases_eq other.arm at.arm) [
        | inl equal ↦
            let yes : is_at at other ≡ true = grind (arith, nat_tests) in
            ap (λ xs. slice_get xs other.arm) here
            ∙ ap (λ k. slice_get (set old at.arm arm) k) equal
            ∙ slice_get-get_or (set old at.arm arm) at.arm arm (omega (arith, there, length-set old at.arm arm))
            ∙ ap Some (get_or-set_same old at.arm arm arm there)
            ∙ sym (ap (λ b. cond b (Some arm) (slice_get (get_or arms other.slot []) other.arm)) yes)
        | inr differs ↦
            let no : is_at at other ≡ false = grind (arith, nat_tests) in
            ap (λ xs. slice_get xs other.arm) here
            ∙ slice_get_same old (set old at.arm arm) other.arm (length-set old at.arm arm) (λ d. get_or-set_other old at.arm other.arm arm d differs)
            ∙ sym (ap (λ xs. slice_get xs other.arm) before)
            ∙ sym (ap (λ b. cond b (Some arm) (slice_get (get_or arms other.slot []) other.arm)) no)
      ]
  | inr slot ↦
      let no : is_at at other ≡ false = grind (arith, nat_tests) in
      ap (λ xs. slice_get xs other.arm) (get_or-set_other arms at.slot other.slot (set old at.arm arm) [] slot)
      ∙ sym (ap (λ b. cond b (Some arm) (slice_get (get_or arms other.slot []) other.arm)) no)
]

-- the arm at a place with another freshness
pub one_freshened : (arms : List (List Arm)) (at other : ArmAt) (old : List Arm) (was : Arm) (fresh : Bool) → at.slot < length arms → get_or arms at.slot [] ≡ old → at.arm < length old
    → was ≡ get_or old at.arm was
    → slice_get (get_or (set arms at.slot (set old at.arm (record was { fresh = fresh }))) other.slot []) other.arm ≡ option_map (freshened at fresh other) (slice_get (get_or arms other.slot []) other.arm)
one_freshened arms at other old was fresh l here there is = one_arm arms at other old (record was { fresh = fresh }) l here there ∙ by_place (is_at at other) refl
  where
    unchanged : (x : Option Arm) → x ≡ option_map (λ arm. cond false (record arm { fresh = fresh }) arm) x
    unchanged None = refl
    unchanged (Some arm) = refl

    by_place : (b : Bool) → is_at at other ≡ b
        → cond b (Some (record was { fresh = fresh })) (slice_get (get_or arms other.slot []) other.arm) ≡ option_map (λ arm. cond b (record arm { fresh = fresh }) arm) (slice_get (get_or arms other.slot []) other.arm)
    by_place true at_place =
        let slot : other.slot ≡ at.slot = grind (arith, nat_tests) in
        let place : other.arm ≡ at.arm = grind (arith, nat_tests) in
        let found : slice_get (get_or arms other.slot []) other.arm ≡ Some was =
        ap₂ (λ i k. slice_get (get_or arms i []) k) slot place ∙ ap (λ xs. slice_get xs at.arm) here ∙ slice_get-get_or old at.arm was there ∙ ap Some (sym is) in
        sym (ap (λ x. option_map (λ (arm : Arm). record arm { fresh = fresh }) x) found)
    by_place false elsewhere = unchanged (slice_get (get_or arms other.slot []) other.arm)

-- ---- a leaf is switched wherever it is

switched_name : (leaf : ℕ) (value : Bool) (arm : Arm) → name (switched_arm leaf value arm) ≡ name arm
unfolding name
switched_name leaf value arm = by_test (is_leaf_of leaf arm)
  where
    by_test : (b : Bool) → name (cond b (record arm { offline = value }) arm) ≡ name arm
    by_test true = refl
    by_test false = refl

switched_names : (leaf : ℕ) (value : Bool) (arms : List Arm) → map name (map (switched_arm leaf value) arms) ≡ map name arms
switched_names leaf value [] = refl
switched_names leaf value (arm ∷ arms) = ap₂ (λ n ns. n ∷ ns) (switched_name leaf value arm) (switched_names leaf value arms)

lists_mapped : (f : Arm → Arm) (arms : List (List Arm)) (slot : ℕ) → get_or (map (map f) arms) slot [] ≡ map f (get_or arms slot [])
lists_mapped f [] zero = refl
lists_mapped f [] (suc slot) = refl
lists_mapped f (x ∷ xs) zero = refl
lists_mapped f (x ∷ xs) (suc slot) = lists_mapped f xs slot

pub all_switched : (leaf : ℕ) (value : Bool) (arms : List (List Arm)) → SameNames arms (map (map (switched_arm leaf value)) arms)
all_switched leaf value arms =
    record {
      count = length-map arms (map (switched_arm leaf value));
      names = λ slot. ap (map name) (lists_mapped (switched_arm leaf value) arms slot) ∙ switched_names leaf value (get_or arms slot []);
    }

pub arms_switched : (leaf : ℕ) (value : Bool) (arms : List (List Arm)) (at : ArmAt)
    → slice_get (get_or (map (map (switched_arm leaf value)) arms) at.slot []) at.arm ≡ option_map (switched_arm leaf value) (slice_get (get_or arms at.slot []) at.arm)
arms_switched leaf value arms at =
    ap (λ xs. slice_get xs at.arm) (lists_mapped (switched_arm leaf value) arms at.slot) ∙ slice_get-map (switched_arm leaf value) (get_or arms at.slot []) at.arm

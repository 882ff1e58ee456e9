-- What the arms of all slots say of the chains of their spares.
use Rattle.std.proofs.Common.{◌≡◌, ◌<◌, ◌≤◌, ℕ, Bool, true, false, Option, Some, None, List, [], ◌∷◌, length, map, get_or, arith, refl, sym, ap, ◌∙◌, subst, inl, inr}
use Rattle.std.specs.Prelude.{cond, ◌||◌}
use Rattle.std.proofs.Math.ListN.{get_or-eq_default}
use Rattle.std.proofs.lemmas.Bool.{cases_lt, false≢true}
use Rattle.std.proofs.lemmas.List.{get_or-map, length-map}
use Rattle.std.proofs.lemmas.Bool.Decides.{nat_tests}
use Rattle.draid_names.specs.declared.arm.Arm.{Arm}
use Rattle.draid_names.specs.Spares.{AreUsed, IsArm}
use Rattle.draid_spec.specs.declared.layout.Geometry.{Geometry}
use Rattle.draid_slots.specs.declared.slot.Detached.{Detached}
use Rattle.draid_slots.specs.declared.slot.Slot.{Slot}
use Rattle.std.proofs.lemmas.List.Folds.{list_any_at}
use Rattle.draid_names.specs.declared.arm.ArmKind.{ArmKind}
use Rattle.draid_names.specs.declared.arm.ArmKind.TheVariants.{Leaf, Spare}
use Rattle.draid_slots.specs.Table.{AreSlots, IsSlot, arms_in, first_spare, has_spare, is_leaf_kind, is_spare_kind, is_spare_of}
use Rattle.draid_slots.proofs.Refusals.{some_same}
use Rattle.draid_slots.proofs.Spares.{held_left, spares_below}

pub none_some : {X : Type 0} (P : Type 0) (x : X) → None ≡ Some x → P
none_some P x h = absurd (cc)

-- the first spare is one of them
pub first_found : (arms : List Arm) (spare : ℕ) → first_spare arms ≡ Some spare → has_spare arms spare ≡ true
first_found [] spare h = none_some _ spare h
first_found (arm ∷ arms) spare h = by (first_found arms spare) (is_spare_kind arm.kind) refl h
  where
    or_true : (b : Bool) → (b || true) ≡ true
    or_true true = refl
    or_true false = refl

    by : (first_spare arms ≡ Some spare → has_spare arms spare ≡ true) → (b : Bool) → is_spare_kind arm.kind ≡ b → cond b (Some arm.number) (first_spare arms) ≡ Some spare
        → (is_spare_of spare arm || has_spare arms spare) ≡ true
    by rest true kind h' =
        let number : arm.number ≡ spare = some_same arm.number spare h' in
        let it : is_spare_of spare arm ≡ true = grind (arith, nat_tests) in
        ap (λ b. b || has_spare arms spare) it
    by rest false kind h' = ap (λ b. is_spare_of spare arm || b) (rest h') ∙ or_true (is_spare_of spare arm)

-- the first spares of these arms
abbrev pub AreFirst : (ℕ → Option ℕ) → List (List Arm) → Type 0
AreFirst first arms = (slot : ℕ) → first slot ≡ first_spare (get_or arms slot [])

its_spare : (used : ℕ → Option ℕ) (arms : List (List Arm)) (slot spare : ℕ) → AreFirst used arms → used slot ≡ Some spare → has_spare (get_or arms slot []) spare ≡ true
its_spare used arms slot spare are h = first_found (get_or arms slot []) spare (sym (are slot) ∙ h)

pub used_settled : (geometry : Geometry) (arms : List (List Arm)) (detached : List Detached) (used : ℕ → Option ℕ) → AreSlots geometry arms detached → AreFirst used arms
    → AreUsed geometry.spec.children geometry.spec.spares used
used_settled geometry arms detached used are first =
    record {
      below = λ slot spare within is. spares_below geometry arms detached slot spare are (its_spare used arms slot spare first is);
      apart = λ a b spare a_there b_there ia ib.
          are.once spare a b (held_left arms detached spare a (its_spare used arms a spare first ia)) (held_left arms detached spare b (its_spare used arms b spare first ib));
    }

pub slot_found : (arms : List (List Arm)) (slot spare : ℕ) → has_spare (get_or arms slot []) spare ≡ true → slot < length arms
slot_found arms slot spare h = elim (cases_lt slot (length arms)) [
  | inl within ↦ within
  | inr past ↦ absurd (false≢true (ap (λ xs. has_spare xs spare) (sym (get_or-eq_default arms [] past)) ∙ h))
]

-- a spare that is an arm now was no other slot's by an earlier list
pub arm_settled : (geometry : Geometry) (arms before : List (List Arm)) (detached : List Detached) (used : ℕ → Option ℕ) (slot spare : ℕ) → AreSlots geometry arms detached → AreFirst used before
    → ((other : ℕ) → has_spare (get_or before other []) spare ≡ true → other ≡ slot) → has_spare (get_or arms slot []) spare ≡ true
    → IsArm geometry.spec.children geometry.spec.spares used slot spare
arm_settled geometry arms before detached used slot spare are first once h =
    record {
      slot_is = (let within = slot_found arms slot spare h in let many = are.children in omega arith);
      spare_is = spares_below geometry arms detached slot spare are h;
      only = λ other within is. once other (its_spare used before other spare first is);
    }

pub past_settled : (arms : List (List Arm)) (used : ℕ → Option ℕ) (children : ℕ) → AreFirst used arms → length arms ≡ children → (k : ℕ) → children ≤ k → used k ≡ None
past_settled arms used children first many k past = first k ∙ ap first_spare (get_or-eq_default arms [] (omega (arith, many, past)))

-- what holds of the arms of each slot
pub each_slot : (geometry : Geometry) (slots : List Slot) (detached : List Detached) (k : ℕ) (d : Slot) → AreSlots geometry (map arms_in slots) detached → k < length slots
    → IsSlot geometry.spec.spares (arms_in (get_or slots k d))
each_slot geometry slots detached k d are below =
    let S : List Arm → Type 0 = λ arms. IsSlot geometry.spec.spares arms in
    subst S (get_or-map arms_in slots k d [] below) (are.each k [] (omega (arith, length-map slots arms_in)))

-- an arm that is no leaf is a spare of its list
pub its_own : (arms : List Arm) (k : ℕ) (arm : Arm) → k < length arms → arm ≡ get_or arms k arm → is_leaf_kind arm.kind ≡ false → has_spare arms arm.number ≡ true
its_own arms k arm there is other = list_any_at (is_spare_of arm.number) arms k arm there (ap (is_spare_of arm.number) (sym is) ∙ itself)
  where
    spare : (kind : ArmKind) → is_leaf_kind kind ≡ false → is_spare_kind kind ≡ true
    spare Leaf h = absurd (false≢true (sym h))
    spare Spare h = refl

    itself : is_spare_of arm.number arm ≡ true
    itself = let kind = spare arm.kind other in grind (arith, nat_tests)

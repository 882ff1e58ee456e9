-- Slots, their arms and their logs.
use Rattle.std.proofs.Common.{◌≡◌, ◌==◌, ◌+◌, ◌++◌, ◌<◌, ◌≤◌, ◌⊎◌, not, ℕ, zero, suc, Bool, true, false, List, [], ◌∷◌, Some, None, option_map, Vec, Global, length, set, max, if◌then◌else◌, inl, inr, refl, sym, ◌∙◌, ap, subst, arith}
use Rattle.std.specs.List.{list_any}
use Rattle.std.proofs.lemmas.Bool.{true≢false}
use Rattle.std.proofs.lemmas.Bool.Decides.{nat_tests}
use Rattle.draid_ranges.specs.Numbers.{has}
use Rattle.draid_ranges.specs.Runs.{is_between}
use Rattle.draid_machine.specs.declared.names.Key.{Key}
use Rattle.draid_machine.specs.declared.names.ArmName.{ArmName}
use Rattle.draid_machine.specs.declared.names.ArmName.TheVariants.{Leaf, Spare}
use Rattle.draid_machine.specs.declared.names.Held.{Held}
use Rattle.draid_machine.specs.Names.{key_eq, name_eq, has_name, is_leaf, up_to}
use Rattle.draid_machine.specs.After.{set_order}
use Rattle.draid_machine.proofs.Small.{is_equal, key_refl, some_injective, both_true, not_true, not_false}
use Rattle.draid_world.specs.World.{arm_of, gone_of, held_in, names_at}
use Rattle.draid_world.specs.declared.world.Arm.{Arm}
use Rattle.draid_arms.specs.Rules.{is_other_leaf, IsLeafLeft, fresh_arm, greatest}
use Rattle.draid_steps.proofs.Entries.{AreApart}
use Rattle.draid_steps.proofs.Lists.{any_of_names, name_passes}

-- ---- lists of lists
pub names_set : (vs : List (Vec ArmName Global)) (s : ℕ) (v : Vec ArmName Global) (c : ℕ) → s < length vs → names_at (set vs s v) c ≡ set_order (names_at vs) s v.items c
names_set [] s v c less = absurd (omega (arith, less))
names_set (x ∷ xs) zero v zero less = refl
names_set (x ∷ xs) zero v (suc c) less = let other : (zero == suc c) ≡ false = grind (arith, nat_tests) in ap (λ b. if b then v.items else names_at xs c) (sym other)
names_set (x ∷ xs) (suc s) v zero less = let other : (suc s == zero) ≡ false = grind (arith, nat_tests) in ap (λ b. if b then v.items else x.items) (sym other)
names_set (x ∷ xs) (suc s) v (suc c) less =
    let same : (s == c) ≡ (suc s == suc c) = grind (arith, nat_tests) in
    names_set xs s v c (omega (arith, less)) ∙ ap (λ b. if b then v.items else names_at xs c) same

-- ---- leaves
pub a_leaf : (n : ArmName) → is_leaf n ≡ true → (m : ℕ) × (n ≡ Leaf m)
a_leaf (Leaf m) e = (m, refl)
a_leaf (Spare t) e = absurd (true≢false (sym e))

pub leaf_left : (ns : List ArmName) (n : ArmName) → list_any (is_other_leaf n) ns ≡ true → IsLeafLeft ns n
leaf_left ns n any leaf =
    let z = any_of_names (is_other_leaf n) ns any in
    let y = both_true (is_leaf z.0) (not (name_eq n z.0)) z.2 in
    let m = a_leaf z.0 y.0 in
    (m.0, subst (λ x. has_name ns x ≡ true) m.1 z.1, subst (λ x. name_eq n x ≡ false) m.1 (not_true (name_eq n z.0) y.1))

pub no_leaf_left : (ns : List ArmName) (n : ArmName) → is_leaf n ≡ true → list_any (is_other_leaf n) ns ≡ false → IsLeafLeft ns n → ⊥
no_leaf_left ns n leaf none left =
    let z = left leaf in
    true≢false (sym (name_passes (is_other_leaf n) ns (Leaf z.0) z.1 (not_false (name_eq n (Leaf z.0)) z.2)) ∙ none)

-- ---- logs
pub same_groups : (last g : ℕ) → is_between 1 (last + 1) g ≡ up_to last g
same_groups last g = grind (arith, nat_tests)

-- ---- the greatest birth
pub greatest_from : (group : ℕ) (es : List (Key × Held)) → group ≤ greatest group es
greatest_from group [] = omega arith
greatest_from group (e ∷ es) = let more = greatest_from (max group e.1.birth) es in omega (arith, more)

pub greatest_birth : (group : ℕ) (es : List (Key × Held)) (k : Key) (h : Held) → held_in es k ≡ Some h → h.birth ≤ greatest group es
greatest_birth group [] k h is = absurd (cc)
greatest_birth group (e ∷ es) k h is = by (key_eq e.0 k) refl is (greatest_from (max group e.1.birth) es) (λ found. greatest_birth (max group e.1.birth) es k h found)
  where
    by : (b : Bool) → key_eq e.0 k ≡ b → (if b then Some e.1 else held_in es k) ≡ Some h → max group e.1.birth ≤ greatest (max group e.1.birth) es
        → (held_in es k ≡ Some h → h.birth ≤ greatest (max group e.1.birth) es) → h.birth ≤ greatest (max group e.1.birth) es
    by true at is from more = let same : e.1.birth ≡ h.birth = ap (λ (x : Held). x.birth) (some_injective e.1 h is) in omega (arith, same, from)
    by false at is from more = more is

pub greatest_is : (group : ℕ) (es : List (Key × Held)) → AreApart es → (greatest group es ≡ group) ⊎ ((k : Key) × (h : Held) × (held_in es k ≡ Some h) × (h.birth ≡ greatest group es))
greatest_is group [] apart = inl refl
greatest_is group (e ∷ es) apart = by (greatest_is (max group e.1.birth) es apart.1)
  where
    here : held_in (e ∷ es) e.0 ≡ Some e.1
    here = ap (λ b. if b then Some e.1 else held_in es e.0) (key_refl e.0)

    either : (a b : ℕ) → (max a b ≡ a) ⊎ (max a b ≡ b)
    either a b = grind arith

    by : (greatest (max group e.1.birth) es ≡ max group e.1.birth) ⊎ ((k : Key) × (h : Held) × (held_in es k ≡ Some h) × (h.birth ≡ greatest (max group e.1.birth) es))
        → (greatest (max group e.1.birth) es ≡ group) ⊎ ((k : Key) × (h : Held) × (held_in (e ∷ es) k ≡ Some h) × (h.birth ≡ greatest (max group e.1.birth) es))
    by (inl is) = elim (either group e.1.birth) [
      | inl m ↦ inl (is ∙ m)
      | inr m ↦ inr (e.0, e.1, here, sym (is ∙ m))
    ]
    by (inr (k, h, found, is)) = inr (k, h, ap (λ b. if b then Some e.1 else held_in es k) (apart.0 k h found) ∙ found, is)

-- a slot whose arms stay
pub order_same : (f : ℕ → List ArmName) (s : ℕ) (ns : List ArmName) → f s ≡ ns → (c : ℕ) → f c ≡ set_order f s ns c
order_same f s ns is c = by (s == c) refl
  where
    by : (b : Bool) → (s == c) ≡ b → f c ≡ (if b then ns else f c)
    by true at = ap f (sym (is_equal s c at)) ∙ is
    by false at = refl

-- the greatest group is below a bound where each birth is
pub greatest_below : (group bound : ℕ) (es : List (Key × Held)) → AreApart es → group < bound → ((k : Key) (h : Held) → held_in es k ≡ Some h → h.birth < bound) → greatest group es < bound
greatest_below group bound es apart less births = elim (greatest_is group es apart) [
  | inl is ↦ omega (arith, is, less)
  | inr (k, h, found, is) ↦ let b = births k h found in omega (arith, is, b)
]

-- an arm that may have missed the groups up to one
pub fresh_is : (last : ℕ) (a : Arm) → a.offline ≡ false → a.fresh ≡ true → a.gone ≡ None → ((x : ℕ) → has a.log x ≡ is_between 1 (last + 1) x) → arm_of a ≡ fresh_arm last
fresh_is last a offline fresh gone log = λ i. record { offline = offline i; fresh = fresh i; log = λ x. (log x ∙ same_groups last x) i; gone = option_map gone_of (gone i) }

-- an arm more in orders that are the same
pub order_pushed : (f g : ℕ → List ArmName) (s : ℕ) (n : ArmName) → ((c : ℕ) → f c ≡ g c) → (c : ℕ) → set_order f s (f s ++ n ∷ []) c ≡ set_order g s (g s ++ n ∷ []) c
order_pushed f g s n same c = λ i. set_order (λ d. same d i) s (same s i ++ n ∷ []) c

-- an empty slot behind the others changes nothing
pub names_empty : (vs : List (Vec ArmName Global)) (v : Vec ArmName Global) → v.items ≡ [] → (c : ℕ) → names_at (vs ++ v ∷ []) c ≡ names_at vs c
names_empty [] v is zero = is
names_empty [] v is (suc c) = refl
names_empty (x ∷ xs) v is zero = refl
names_empty (x ∷ xs) v is (suc c) = names_empty xs v is c

pub longer : (n : ℕ) (vs : List (Vec ArmName Global)) (v : Vec ArmName Global) (ws : List (Vec ArmName Global)) → ws ≡ vs ++ v ∷ [] → n ≤ length vs → n + 1 ≤ length ws
longer n vs v ws is le = subst (λ x. n + 1 ≤ length x) (sym is) (let more = length-push vs in omega (arith, le, more))
  where
    length-push : (xs : List (Vec ArmName Global)) → length (xs ++ v ∷ []) ≡ length xs + 1
    length-push [] = refl
    length-push (x ∷ xs) = let e = length-push xs in omega (arith, e)

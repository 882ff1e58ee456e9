-- The arms of a record in its ranges: each is found by its name, and the slots are those of a metaslab.
use Rattle.std.proofs.Common.{◌≡◌, ◌==◌, ◌<◌, ◌≤◌, ◌+◌, ◌||◌, ◌&&◌, not, nat_lt, ℕ, zero, suc, Bool, true, false, List, [], ◌∷◌, ◌++◌, append_assoc, length, map, find, Some, None, All, cond, refl, sym, ◌∙◌, ap, subst, arith, slice_get, slice_index_or, eq-eqb, le-ltb, ltb-true}
use Rattle.std.specs.List.{list_any}
use Rattle.std.specs.Option.{option_or}
use Rattle.std.proofs.lemmas.Bool.{true≢false}
use Rattle.std.proofs.lemmas.Bool.Decides.{nat_tests}
use Rattle.std.proofs.lemmas.List.{length-append, length-map}
use Rattle.std.proofs.lemmas.List.Folds.{find-append, list_any-append}
use Rattle.draid_names.specs.declared.arm.Arm.{Arm}
use Rattle.draid_names.specs.declared.arm.ArmKind.{ArmKind}
use Rattle.draid_names.specs.declared.arm.ArmKind.TheVariants.{Leaf, Spare}
use Rattle.draid_machine.proofs.Small.{both_true, name_refl, not_true, some_injective}
use Rattle.draid_machine.specs.Names.{name_eq, named}
use Rattle.draid_slots.specs.Table as table
use Rattle.draid_record.specs.declared.limits.Limits.{Limits}
use Rattle.draid_record.specs.Ranges.{AreArms, AreSlots, IsArm, IsSlot}
use Rattle.draid_record.specs.Record.{ArmTold, has_arm, has_leaf, is_kind, limit_of, stands}
use Rattle.draid_record.specs.Written.{code_of}
use Rattle.draid_stable.specs.Images.{all_arms, has_name, name_of}
use Rattle.draid_stable.specs.Opening.{arms_told}

-- ---- an arm of a kind and number

abbrev is_of : ArmKind → ℕ → ArmTold → Bool
is_of kind number told = is_kind told.0.kind kind && (told.0.number == number)

-- a name is a kind and a number
by_name : (t u : ArmTold) → has_name (name_of t) u ≡ is_of t.0.kind t.0.number u
by_name t u = by t.0.kind u.0.kind
  where
    by : (j k : ArmKind) → name_eq (named k u.0.number) (named j t.0.number) ≡ (is_kind k j && (u.0.number == t.0.number))
    by Leaf Leaf = refl
    by Leaf Spare = refl
    by Spare Leaf = refl
    by Spare Spare = refl

same_kind : (k : ArmKind) → is_kind k k ≡ true
same_kind Leaf = refl
same_kind Spare = refl

is_itself : (t : ArmTold) → is_of t.0.kind t.0.number t ≡ true
is_itself t = ap (λ b. b && (t.0.number == t.0.number)) (same_kind t.0.kind) ∙ eq-eqb t.0.number t.0.number refl

either_false : (a b : Bool) → (a || b) ≡ false → (a ≡ false) × (b ≡ false)
either_false true b is = absurd (true≢false is)
either_false false b is = (refl, is)

-- a list with one more at its end
more_false : {X : Type 0} (p : X → Bool) (xs : List X) (x : X) → list_any p (xs ++ x ∷ []) ≡ false → (list_any p xs ≡ false) × (p x ≡ false)
more_false p xs x is =
    let both = either_false (list_any p xs) (p x || false) (sym (list_any-append p xs (x ∷ [])) ∙ is) in
    (both.0, (either_false (p x) false both.1).0)

none_found : {X : Type 0} (p : X → Bool) (xs : List X) → list_any p xs ≡ false → find p xs ≡ None
none_found p [] is = refl
none_found p (x ∷ xs) is = let both = either_false (p x) (list_any p xs) is in ap (λ b. cond b (Some x) (find p xs)) both.0 ∙ none_found p xs both.1

any_same : {X : Type 0} (p q : X → Bool) (xs : List X) → ((x : X) → p x ≡ q x) → list_any p xs ≡ list_any q xs
any_same p q [] same = refl
any_same p q (x ∷ xs) same = λ i. same x i || any_same p q xs same i

-- one that stands in a list passes some test there
pub any_got : {X : Type 0} (p : X → Bool) (xs : List X) (k : ℕ) (x : X) → slice_get xs k ≡ Some x → p x ≡ true → list_any p xs ≡ true
any_got p [] k x at is = absurd (cc)
any_got p (y ∷ ys) zero x at is = ap (λ b. b || list_any p ys) (ap p (some_injective y x at) ∙ is)
any_got p (y ∷ ys) (suc k) x at is = by (p y) (any_got p ys k x at is)
  where
    by : (b : Bool) → list_any p ys ≡ true → (b || list_any p ys) ≡ true
    by true e = refl
    by false e = e

-- ---- by the ranges no kind and number stands twice

-- nothing of the kind and number of an arm stands before it
pub record IsFirst (before : List (List ArmTold)) (here : List ArmTold) (t : ArmTold) : Type 0 where
  pub slots : list_any (λ (list : List ArmTold). has_arm list t.0.kind t.0.number) before ≡ false
  pub arms : has_arm here t.0.kind t.0.number ≡ false

first_of : (limits : Limits) (before : List (List ArmTold)) (count : ℕ) (here : List ArmTold) (t : ArmTold) → IsArm limits before count here t → IsFirst before here t
first_of limits before count here t is =
    let known = both_true (nat_lt t.0.number (limit_of limits t.0.kind)) (not (stands before here t.0.kind t.0.number)) is.known in
    let none = either_false (list_any (λ (list : List ArmTold). has_arm list t.0.kind t.0.number) before) (has_arm here t.0.kind t.0.number) (not_true (stands before here t.0.kind t.0.number) known.1) in
    record { slots = none.0; arms = none.1 }

pub record IsFound (before : List (List ArmTold)) (here list : List ArmTold) (t : ArmTold) : Type 0 where
  pub first : IsFirst before here t
  pub found : find (has_name (name_of t)) list ≡ Some t

found_arm : (limits : Limits) (before : List (List ArmTold)) (count : ℕ) (here list : List ArmTold) (k : ℕ) (t : ArmTold) → AreArms limits before count here list → slice_get list k ≡ Some t
    → IsFound before here list t
found_arm limits before count here [] k t are at = absurd (cc)
found_arm limits before count here (a ∷ rest) zero t are at =
    let same : a ≡ t = some_injective a t at in
    subst (IsFound before here (a ∷ rest)) same (record { first = first_of limits before count here a are.0; found = ap (λ b. cond b (Some a) (find (has_name (name_of a)) rest)) (name_refl (name_of a)) })
found_arm limits before count here (a ∷ rest) (suc k) t are at =
    let more = found_arm limits before count (here ++ a ∷ []) rest k t are.1 at in
    let both = more_false (is_of t.0.kind t.0.number) here a more.first.arms in
    record { first = record { slots = more.first.slots; arms = both.0 }; found = ap (λ b. cond b (Some a) (find (has_name (name_of t)) rest)) (by_name t a ∙ both.1) ∙ more.found }

pub found_in : (limits : Limits) (before slots : List (List ArmTold)) (s k : ℕ) (t : ArmTold) → AreSlots limits before slots → slice_get (slice_index_or slots s []) k ≡ Some t
    → (list_any (λ (list : List ArmTold). has_arm list t.0.kind t.0.number) before ≡ false) × (find (has_name (name_of t)) (all_arms slots) ≡ Some t)
found_in limits before [] s k t are at = absurd (cc)
found_in limits before (x ∷ rest) zero k t are at =
    let one = found_arm limits before (length x) [] x k t are.0.arms_are at in
    (one.first.slots, find-append (has_name (name_of t)) x (all_arms rest) ∙ ap (λ o. option_or o (find (has_name (name_of t)) (all_arms rest))) one.found)
found_in limits before (x ∷ rest) (suc s) k t are at =
    let more = found_in limits (before ++ x ∷ []) rest s k t are.1 at in
    let both = more_false (λ (list : List ArmTold). has_arm list t.0.kind t.0.number) before x more.0 in
    let none : find (has_name (name_of t)) x ≡ None = none_found (has_name (name_of t)) x (any_same (has_name (name_of t)) (is_of t.0.kind t.0.number) x (by_name t) ∙ both.1) in
    (both.0, find-append (has_name (name_of t)) x (all_arms rest) ∙ ap (λ o. option_or o (find (has_name (name_of t)) (all_arms rest))) none ∙ more.1)

-- two of one kind and number stand in one slot
pub apart_slots : (limits : Limits) (before slots : List (List ArmTold)) (s r k m : ℕ) (t u : ArmTold) → AreSlots limits before slots → slice_get (slice_index_or slots s []) k ≡ Some t
    → slice_get (slice_index_or slots r []) m ≡ Some u → t.0.kind ≡ u.0.kind → t.0.number ≡ u.0.number → s < r → ⊥
apart_slots limits before [] s r k m t u are at there kind number less = absurd (cc)
apart_slots limits before (x ∷ rest) s zero k m t u are at there kind number less = absurd (omega (arith, less))
apart_slots limits before (x ∷ rest) zero (suc r) k m t u are at there kind number less =
    let none = (more_false (λ (list : List ArmTold). has_arm list u.0.kind u.0.number) before x (found_in limits (before ++ x ∷ []) rest r m u are.1 there).0).1 in
    let same : is_of u.0.kind u.0.number t ≡ true = ap (λ j. is_of j u.0.number t) (sym kind) ∙ ap (λ n. is_of t.0.kind n t) (sym number) ∙ is_itself t in
    true≢false (sym (any_got (is_of u.0.kind u.0.number) x k t at same) ∙ none)
apart_slots limits before (x ∷ rest) (suc s) (suc r) k m t u are at there kind number less = apart_slots limits (before ++ x ∷ []) rest s r k m t u are.1 at there kind number (omega (arith, less))

-- ---- one of its arms is a leaf
leaf_code : (k : ArmKind) → (code_of k == 0) ≡ is_kind k Leaf
leaf_code Leaf = refl
leaf_code Spare = refl

last_leaf : (few had code : Bool) → few ≡ false → (few || (had || code)) ≡ true → (had || (code || false)) ≡ true
last_leaf few true code last is = refl
last_leaf true false code last is = absurd (true≢false last)
last_leaf false false true last is = refl
last_leaf false false false last is = absurd (true≢false (sym is))

some_leaf : (limits : Limits) (before : List (List ArmTold)) (count : ℕ) (here list : List ArmTold) → AreArms limits before count here list → 1 ≤ length list → length here + length list ≡ count
    → has_leaf (here ++ list) ≡ true
some_leaf limits before count here [] are some is = absurd (omega (arith, some))
some_leaf limits before count here (a ∷ []) are some is =
    list_any-append (λ (told : ArmTold). is_kind told.0.kind Leaf) here (a ∷ [])
    ∙ ap (λ c. has_leaf here || (c || false)) (sym (leaf_code a.0.kind))
    ∙ last_leaf (nat_lt (length here + 1) count) (has_leaf here) (code_of a.0.kind == 0) (le-ltb (length here + 1) count (omega (arith, is))) are.0.leaf
some_leaf limits before count here (a ∷ b ∷ rest) are some is =
    ap has_leaf (sym (append_assoc here (a ∷ []) (b ∷ rest)))
    ∙ some_leaf limits before count (here ++ a ∷ []) (b ∷ rest) are.1 (omega arith) (let n = length-append here (a ∷ []) in omega (arith, n, is))

leaf_any : (list : List ArmTold) → has_leaf list ≡ table.has_leaf (map (λ (told : ArmTold). told.0) list)
leaf_any [] = refl
leaf_any (t ∷ ts) = λ i. kind t.0.kind i || leaf_any ts i
  where
    kind : (k : ArmKind) → is_kind k Leaf ≡ table.is_leaf_kind k
    kind Leaf = refl
    kind Spare = refl

spare_low : (limits : Limits) (before : List (List ArmTold)) (count : ℕ) (here : List ArmTold) (t : ArmTold) → IsArm limits before count here t → table.is_spare_kind t.0.kind ≡ true → t.0.number < limits.spares
spare_low limits before count here t is spare =
    by t.0.kind spare (both_true (nat_lt t.0.number (limit_of limits t.0.kind)) (not (stands before here t.0.kind t.0.number)) is.known).0
  where
    by : (k : ArmKind) → table.is_spare_kind k ≡ true → nat_lt t.0.number (limit_of limits k) ≡ true → t.0.number < limits.spares
    by Leaf spare less = absurd (true≢false (sym spare))
    by Spare spare less = ltb-true t.0.number limits.spares less

pooled : (limits : Limits) (before : List (List ArmTold)) (count : ℕ) (here list : List ArmTold) → AreArms limits before count here list
    → All (λ (arm : Arm). table.is_spare_kind arm.kind ≡ true → arm.number < limits.spares) (map (λ (told : ArmTold). told.0) list)
pooled limits before count here [] are k d less = absurd (omega (arith, less))
pooled limits before count here (a ∷ rest) are zero d less = spare_low limits before count here a are.0
pooled limits before count here (a ∷ rest) are (suc k) d less = pooled limits before count (here ++ a ∷ []) rest are.1 k d (omega (arith, less))

slot_is : (limits : Limits) (before : List (List ArmTold)) (list : List ArmTold) → IsSlot limits before list → table.IsSlot limits.spares (map (λ (told : ArmTold). told.0) list)
slot_is limits before list is = record {
  most = (let n = length-map list (λ (told : ArmTold). told.0) in let m = is.most in omega (arith, n, m));
  leaf = sym (leaf_any list) ∙ some_leaf limits before (length list) [] list is.arms_are is.some (omega arith);
  pooled = pooled limits before (length list) [] list is.arms_are;
}

pub slots_are : (limits : Limits) (before slots : List (List ArmTold)) → AreSlots limits before slots → All (table.IsSlot limits.spares) (arms_told slots)
slots_are limits before [] are k d less = absurd (omega (arith, less))
slots_are limits before (x ∷ rest) are zero d less = slot_is limits before x are.0
slots_are limits before (x ∷ rest) are (suc k) d less = slots_are limits (before ++ x ∷ []) rest are.1 k d (omega (arith, less))

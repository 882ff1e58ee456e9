-- What is left of the tables after a commit.
use Rattle.std.proofs.Common.{◌≡◌, ◌&&◌, ◌||◌, not, ℕ, zero, nat_le, nat_lt, Bool, true, false, List, [], ◌∷◌, Option, Some, None, filter, cond, if◌then◌else◌, refl, sym, ◌∙◌, ap, subst, Ordering, arith}
use Rattle.std.specs.Ordering.{eq_by_cmp}
use Rattle.std.specs.Map.{keys_of}
use Rattle.std.specs.Map.Calls.{RetainsPairs}
use Rattle.std.proofs.lemmas.Map.Entries.{filter_from_retain_pairs}
use Rattle.std.specs.List.{IsDistinct, AllByRecursion}
use Rattle.std.specs.List.Sorted.{IsStrictlySortedBy}
use Rattle.std.proofs.lemmas.Bool.{true≢false}
use Rattle.std.proofs.lemmas.Bool.Decides.{nat_tests}
use Rattle.std.proofs.lemmas.Map.Keys.{IsDistinct-from_sorted, IsDistinct-head, IsDistinct-tail}
use Rattle.draid_machine.specs.contracts.names as contracts
use Rattle.draid_machine.specs.declared.names.Key.{Key}
use Rattle.draid_machine.specs.declared.names.ArmName.{ArmName}
use Rattle.draid_machine.specs.declared.names.ArmName.TheVariants.{Leaf, Spare}
use Rattle.draid_machine.specs.declared.names.Held.{Held}
use Rattle.draid_machine.specs.declared.names.Segment.{Segment}
use Rattle.draid_machine.specs.Names.{key_eq, name_eq}
use Rattle.draid_machine.specs.State as state
use Rattle.draid_machine.specs.After.{is_freed_block, is_gone_arm, is_kept_by}
use Rattle.draid_machine.proofs.Small.{name_true}
use Rattle.draid_world.specs.World.{held_in, arm_in, arm_of, kept_in}
use Rattle.draid_world.proofs.Keeping.{AreSegmentsApart, kept_by, left_by_group, same_one}
use Rattle.draid_world.specs.declared.world.Arm.{Arm}
use Rattle.draid_steps.proofs.Entries.{AreApart}

-- a closure that only tests leaves a filter
pub retained : {F K X : Type 0} (T : F → K → X → Bool → X → F → Type 0) (f : F) (p : K × X → Bool) → ((k : K) (v : X) (b : Bool) (w : X) (g : F) → T f k v b w g → (b ≡ p (k, v)) × (w ≡ v) × (g ≡ f))
    → (es kept : List (K × X)) → RetainsPairs T f es kept → kept ≡ filter p es
retained T f p step es kept r = filter_from_retain_pairs T (λ g. g ≡ f) p (λ g k v b w g' i t. step k v b w g' (subst (λ x. T x k v b w g') i t)) f es kept refl r

-- what is kept of unfreed blocks for later groups
abbrev pub keeps_on : (Key → Option Held) → ℕ → Segment → ℕ → Bool
keeps_on held group s last = not (is_freed_block group (held s.key)) && nat_lt group last

pub kept_on : (held : Key → Option Held) (group : ℕ) (es : List (Segment × ℕ)) (s : Segment) → AreSegmentsApart es
    → kept_in (filter (λ e. keeps_on held group e.0 e.1) es) s ≡ (if is_freed_block group (held s.key) || is_kept_by group (kept_in es s) then None else kept_in es s)
kept_on held group es s apart = left_by_group (keeps_on held group) es s apart (λ t g e. ap (λ (x : Segment). keeps_on held group x g) (same_one t s e)) ∙ by (kept_in es s)
  where
    bits : (f : Bool) (g : ℕ) → (if not f && nat_lt group g then Some g else None) ≡ (if f || nat_le g group then None else Some g)
    bits true g = refl
    bits false g = let turned : nat_lt group g ≡ not (nat_le g group) = grind (arith, nat_tests) in ap (λ b. if b then Some g else None) turned ∙ picked (nat_le g group)
      where
        picked : (b : Bool) → (if not b then Some g else None) ≡ (if b then None else Some g)
        picked true = refl
        picked false = refl

    no_group : Option ℕ
    no_group = None

    none : (f : Bool) → no_group ≡ (if f || false then no_group else no_group)
    none true = refl
    none false = refl

    by : (o : Option ℕ) → kept_by (keeps_on held group s) o ≡ (if is_freed_block group (held s.key) || is_kept_by group o then None else o)
    by None = none (is_freed_block group (held s.key))
    by (Some g) = bits (is_freed_block group (held s.key)) g

-- a block that is gone is found no more, and any other as before
pub held_kept : (group : ℕ) (es : List (Key × Held)) (k : Key) → AreApart es
    → held_in (filter (λ e. not (is_freed_block group (Some e.1))) es) k ≡ (if is_freed_block group (held_in es k) then None else held_in es k)
held_kept group [] k apart = refl
held_kept group (e ∷ es) k apart = by (is_freed_block group (Some e.1)) refl (key_eq e.0 k) refl (held_kept group es k apart.1)
  where
    left : List (Key × Held)
    left = filter (λ e. not (is_freed_block group (Some e.1))) es

    none : key_eq e.0 k ≡ true → held_in es k ≡ None
    none at = found (held_in es k) refl
      where
        found : (o : Option Held) → held_in es k ≡ o → o ≡ None
        found None is = refl
        found (Some h) is = absurd (true≢false (sym at ∙ apart.0 k h is))

    by : (b : Bool) → is_freed_block group (Some e.1) ≡ b → (d : Bool) → key_eq e.0 k ≡ d → held_in left k ≡ (if is_freed_block group (held_in es k) then None else held_in es k)
        → held_in (cond (not b) (e ∷ left) left) k
        ≡ (if is_freed_block group (if d then Some e.1 else held_in es k) then None else (if d then Some e.1 else held_in es k))
    by true freed true at rest = rest ∙ ap (λ o. if is_freed_block group o then None else o) (none at) ∙ ap (λ b. if b then None else Some e.1) (sym freed)
    by true freed false at rest = rest
    by false stays true at rest = ap (λ b. if b then Some e.1 else held_in left k) at ∙ ap (λ b. if b then None else Some e.1) (sym stays)
    by false stays false at rest = ap (λ b. if b then Some e.1 else held_in left k) at ∙ rest

-- ---- the same of arms
abbrev pub arm_cmp : ArmName → ArmName → Ordering
arm_cmp n m = (contracts.ArmNameOrd.TheImpl.cmp-value).it n m

abbrev pub AreArmsApart : List (ArmName × Arm) → Type 0
AreArmsApart [] = (zero ≡ zero)
AreArmsApart (e ∷ es) = ((n : ArmName) (a : state.Arm) → arm_in es n ≡ Some a → name_eq e.0 n ≡ false) × AreArmsApart es

same_names : (n m : ArmName) → eq_by_cmp arm_cmp n m ≡ name_eq n m
same_names (Leaf a) (Leaf b) = grind (arith, nat_tests)
same_names (Leaf a) (Spare b) = refl
same_names (Spare a) (Leaf b) = refl
same_names (Spare a) (Spare b) = grind (arith, nat_tests)

none_later : (n : ArmName) (es : List (ArmName × Arm)) → AllByRecursion (λ y. eq_by_cmp arm_cmp n y ≡ false) (keys_of es) → (m : ArmName) (a : state.Arm) → arm_in es m ≡ Some a → name_eq n m ≡ false
none_later n [] all m a is = absurd (cc)
none_later n (e ∷ es) all m a is = by (name_eq e.0 m) refl is (λ found. none_later n es all.1 m a found)
  where
    by : (b : Bool) → name_eq e.0 m ≡ b → (if b then Some (arm_of e.1) else arm_in es m) ≡ Some a → (arm_in es m ≡ Some a → name_eq n m ≡ false) → name_eq n m ≡ false
    by true at is more = subst (λ x. name_eq n x ≡ false) (name_true e.0 m at) (sym (same_names n e.0) ∙ all.0)
    by false at is more = more is

names_apart : (es : List (ArmName × Arm)) → IsDistinct (eq_by_cmp arm_cmp) (keys_of es) → AreArmsApart es
names_apart [] d = refl
names_apart (e ∷ es) d = (none_later e.0 es (IsDistinct-head (eq_by_cmp arm_cmp) e.0 (keys_of es) d), names_apart es (IsDistinct-tail (eq_by_cmp arm_cmp) e.0 (keys_of es) d))

pub arms_apart : (es : List (ArmName × Arm)) → IsStrictlySortedBy arm_cmp (keys_of es) → AreArmsApart es
arms_apart es s = names_apart es (IsDistinct-from_sorted arm_cmp (keys_of es) s)

pub arm_kept : (group : ℕ) (es : List (ArmName × Arm)) (n : ArmName) → AreArmsApart es
    → arm_in (filter (λ e. not (is_gone_arm group (Some (arm_of e.1)))) es) n ≡ (if is_gone_arm group (arm_in es n) then None else arm_in es n)
arm_kept group [] n apart = refl
arm_kept group (e ∷ es) n apart = by (is_gone_arm group (Some (arm_of e.1))) refl (name_eq e.0 n) refl (arm_kept group es n apart.1)
  where
    left : List (ArmName × Arm)
    left = filter (λ e. not (is_gone_arm group (Some (arm_of e.1)))) es

    none : name_eq e.0 n ≡ true → arm_in es n ≡ None
    none at = found (arm_in es n) refl
      where
        found : (o : Option state.Arm) → arm_in es n ≡ o → o ≡ None
        found None is = refl
        found (Some a) is = absurd (true≢false (sym at ∙ apart.0 n a is))

    by : (b : Bool) → is_gone_arm group (Some (arm_of e.1)) ≡ b → (d : Bool) → name_eq e.0 n ≡ d → arm_in left n ≡ (if is_gone_arm group (arm_in es n) then None else arm_in es n)
        → arm_in (cond (not b) (e ∷ left) left) n
        ≡ (if is_gone_arm group (if d then Some (arm_of e.1) else arm_in es n) then None else (if d then Some (arm_of e.1) else arm_in es n))
    by true freed true at rest = rest ∙ ap (λ o. if is_gone_arm group o then None else o) (none at) ∙ ap (λ b. if b then None else Some (arm_of e.1)) (sym freed)
    by true freed false at rest = rest
    by false stays true at rest = ap (λ b. if b then Some (arm_of e.1) else arm_in left n) at ∙ ap (λ b. if b then None else Some (arm_of e.1)) (sym stays)
    by false stays false at rest = ap (λ b. if b then Some (arm_of e.1) else arm_in left n) at ∙ rest

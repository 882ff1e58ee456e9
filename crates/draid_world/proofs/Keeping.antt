-- Which segments are kept, and for which group.
use Rattle.std.proofs.Common.{◌≡◌, ◌==◌, ◌&&◌, not, ℕ, zero, Bool, true, false, List, [], ◌∷◌, Option, Some, None, filter, cond, if◌then◌else◌, refl, sym, ◌∙◌, ap, subst, arith}
use Rattle.std.specs.Ordering.{eq_by_cmp}
use Rattle.std.specs.Map.{keys_of, lookup}
use Rattle.std.specs.Map.Calls.{RetainsPairs}
use Rattle.std.specs.BTreeMap.{is_at}
use Rattle.std.specs.List.{IsDistinct, AllByRecursion}
use Rattle.std.specs.List.Sorted.{IsStrictlySortedBy}
use Rattle.std.proofs.lemmas.Bool.{true≢false}
use Rattle.std.proofs.lemmas.Bool.Decides.{nat_tests}
use Rattle.std.proofs.lemmas.Map.Entries.{filter_from_retain_pairs}
use Rattle.std.proofs.lemmas.Map.Keys.{IsDistinct-from_sorted, IsDistinct-head, IsDistinct-tail}
use Rattle.draid_machine.specs.declared.names.Key.{Key}
use Rattle.draid_machine.specs.declared.names.Segment.{Segment}
use Rattle.draid_machine.specs.After.{not_kept}
use Rattle.draid_machine.specs.Names.{key_eq, name_eq, segment_eq}
use Rattle.draid_machine.proofs.Small.{both_true, key_true, name_true}
use Rattle.draid_world.specs.World.{kept_in}
use Rattle.draid_world.proofs.Maps.{same_keys}
use Rattle.draid_world.proofs.Segments.{at_segment, segment_cmp, turn_segment}

pub kept_lookup : (es : List (Segment × ℕ)) (s : Segment) → lookup (is_at (segment_cmp s)) es ≡ kept_in es s
kept_lookup [] s = refl
kept_lookup (e ∷ es) s = λ i. if at_segment s e.0 i then Some e.1 else kept_lookup es s i

-- a closure that only tests leaves a filter
pub filtered : {F K X : Type 0} (T : F → K → X → Bool → X → F → Type 0) (f : F) (p : K × X → Bool) → ((k : K) (v : X) (b : Bool) (w : X) (g : F) → T f k v b w g → (b ≡ p (k, v)) × (w ≡ v) × (g ≡ f))
    → (es kept : List (K × X)) → RetainsPairs T f es kept → kept ≡ filter p es
filtered T f p step es kept r = filter_from_retain_pairs T (λ g. g ≡ f) p (λ g k v b w g' i t. step k v b w g' (subst (λ x. T x k v b w g') i t)) f es kept refl r

abbrev no_group : Option ℕ
no_group = None

-- a group where it passes a test
abbrev pub kept_by : (ℕ → Bool) → Option ℕ → Option ℕ
kept_by test None = None
kept_by test (Some g) = if test g then Some g else None

-- what is left where a test of segments fails for some
pub left_by_segment : (keep : Segment → Bool) (es : List (Segment × ℕ)) (s : Segment) → ((t : Segment) → segment_eq t s ≡ true → keep t ≡ keep s)
    → kept_in (filter (λ e. keep e.0) es) s ≡ (if keep s then kept_in es s else None)
left_by_segment keep [] s same = by (keep s)
  where
    by : (b : Bool) → no_group ≡ (if b then no_group else None)
    by true = refl
    by false = refl
left_by_segment keep (e ∷ es) s same = by (keep e.0) refl (segment_eq e.0 s) refl (left_by_segment keep es s same)
  where
    left : List (Segment × ℕ)
    left = filter (λ e. keep e.0) es

    by : (k : Bool) → keep e.0 ≡ k → (d : Bool) → segment_eq e.0 s ≡ d → kept_in left s ≡ (if keep s then kept_in es s else None)
        → kept_in (cond k (e ∷ left) left) s ≡ (if keep s then (if d then Some e.1 else kept_in es s) else None)
    by true is true at rest = ap (λ b. if b then Some e.1 else kept_in left s) at ∙ sym (ap (λ b. if b then Some e.1 else None) (sym (same e.0 at) ∙ is))
    by true is false at rest = ap (λ b. if b then Some e.1 else kept_in left s) at ∙ rest
    by false is true at rest = rest ∙ ap (λ b. if b then kept_in es s else None) (sym (same e.0 at) ∙ is) ∙ sym (ap (λ b. if b then Some e.1 else None) (sym (same e.0 at) ∙ is))
    by false is false at rest = rest

pub key_forgotten : (k : Key) (es : List (Segment × ℕ)) (s : Segment) → kept_in (filter (λ e. not (key_eq k e.0.key)) es) s ≡ not_kept k (kept_in es) s
key_forgotten k es s = left_by_segment (λ t. not (key_eq k t.key)) es s (λ t e. same_keys k t s e) ∙ turned (key_eq k s.key)
  where
    turned : (b : Bool) → (if not b then kept_in es s else None) ≡ (if b then None else kept_in es s)
    turned true = refl
    turned false = refl

-- ---- segments in order are distinct
abbrev pub AreSegmentsApart : List (Segment × ℕ) → Type 0
AreSegmentsApart [] = (zero ≡ zero)
AreSegmentsApart (e ∷ es) = ((s : Segment) (g : ℕ) → kept_in es s ≡ Some g → segment_eq e.0 s ≡ false) × AreSegmentsApart es

same_segments : (s t : Segment) → eq_by_cmp segment_cmp s t ≡ segment_eq s t
same_segments s t = at_segment s t ∙ turn_segment t s

-- equal segments are one
pub same_one : (t s : Segment) → segment_eq t s ≡ true → t ≡ s
same_one t s e =
    let a = both_true (key_eq t.key s.key && (t.column == s.column) && name_eq t.arm s.arm && (t.leaf == s.leaf)) (t.row == s.row) e in
    let b = both_true (key_eq t.key s.key && (t.column == s.column) && name_eq t.arm s.arm) (t.leaf == s.leaf) a.0 in
    let d = both_true (key_eq t.key s.key && (t.column == s.column)) (name_eq t.arm s.arm) b.0 in
    let f = both_true (key_eq t.key s.key) (t.column == s.column) d.0 in
    let key = key_true t.key s.key f.0 in
    let arm = name_true t.arm s.arm d.1 in
    let column : t.column ≡ s.column = grind (arith, nat_tests, f) in
    let leaf : t.leaf ≡ s.leaf = grind (arith, nat_tests, b) in
    let row : t.row ≡ s.row = grind (arith, nat_tests, a) in
    λ i. record { key = key i; column = column i; arm = arm i; leaf = leaf i; row = row i }

pub segment_swap : (a b s : Segment) → segment_eq b s ≡ true → segment_eq a b ≡ segment_eq a s
segment_swap a b s e = ap (segment_eq a) (same_one b s e)

none_later : (s : Segment) (es : List (Segment × ℕ)) → AllByRecursion (λ y. eq_by_cmp segment_cmp s y ≡ false) (keys_of es) → (t : Segment) (g : ℕ) → kept_in es t ≡ Some g → segment_eq s t ≡ false
none_later s [] all t g is = absurd (cc)
none_later s (e ∷ es) all t g is = by (segment_eq e.0 t) refl is (λ found. none_later s es all.1 t g found)
  where
    by : (b : Bool) → segment_eq e.0 t ≡ b → (if b then Some e.1 else kept_in es t) ≡ Some g → (kept_in es t ≡ Some g → segment_eq s t ≡ false) → segment_eq s t ≡ false
    by true at is more = sym (segment_swap s e.0 t at) ∙ sym (same_segments s e.0) ∙ all.0
    by false at is more = more is

apart_from : (es : List (Segment × ℕ)) → IsDistinct (eq_by_cmp segment_cmp) (keys_of es) → AreSegmentsApart es
apart_from [] d = refl
apart_from (e ∷ es) d = (none_later e.0 es (IsDistinct-head (eq_by_cmp segment_cmp) e.0 (keys_of es) d), apart_from es (IsDistinct-tail (eq_by_cmp segment_cmp) e.0 (keys_of es) d))

pub segments_apart : (es : List (Segment × ℕ)) → IsStrictlySortedBy segment_cmp (keys_of es) → AreSegmentsApart es
segments_apart es s = apart_from es (IsDistinct-from_sorted segment_cmp (keys_of es) s)

-- what is left where a test of segments and groups fails for some
pub left_by_group : (keep : Segment → ℕ → Bool) (es : List (Segment × ℕ)) (s : Segment) → AreSegmentsApart es → ((t : Segment) (g : ℕ) → segment_eq t s ≡ true → keep t g ≡ keep s g)
    → kept_in (filter (λ e. keep e.0 e.1) es) s ≡ kept_by (keep s) (kept_in es s)
left_by_group keep [] s apart same = refl
left_by_group keep (e ∷ es) s apart same = by (keep e.0 e.1) refl (segment_eq e.0 s) refl (left_by_group keep es s apart.1 same)
  where
    left : List (Segment × ℕ)
    left = filter (λ e. keep e.0 e.1) es

    none : segment_eq e.0 s ≡ true → kept_in es s ≡ None
    none at = found (kept_in es s) refl
      where
        found : (o : Option ℕ) → kept_in es s ≡ o → o ≡ None
        found None is = refl
        found (Some g) is = absurd (true≢false (sym at ∙ apart.0 s g is))

    by : (k : Bool) → keep e.0 e.1 ≡ k → (d : Bool) → segment_eq e.0 s ≡ d → kept_in left s ≡ kept_by (keep s) (kept_in es s)
        → kept_in (cond k (e ∷ left) left) s ≡ kept_by (keep s) (if d then Some e.1 else kept_in es s)
    by true is true at rest = ap (λ b. if b then Some e.1 else kept_in left s) at ∙ sym (ap (λ b. if b then Some e.1 else None) (sym (same e.0 e.1 at) ∙ is))
    by true is false at rest = ap (λ b. if b then Some e.1 else kept_in left s) at ∙ rest
    by false is true at rest = rest ∙ ap (kept_by (keep s)) (none at) ∙ sym (ap (λ b. if b then Some e.1 else None) (sym (same e.0 e.1 at) ∙ is))
    by false is false at rest = rest

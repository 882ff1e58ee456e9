-- Lists of segments.
use Rattle.std.proofs.Common.{◌≡◌, ◌==◌, ◌+◌, ◌<◌, ◌&&◌, ◌||◌, ◌++◌, not, ℕ, Bool, true, false, List, [], ◌∷◌, take, length, get_or, refl, ◌∙◌, ap, arith}
use Rattle.std.proofs.lemmas.Bool.Decides.{nat_tests}
use Rattle.std.proofs.lemmas.List.{take_more}
use Rattle.draid_machine.specs.declared.names.ArmName.TheVariants.{Leaf}
use Rattle.draid_machine.specs.declared.names.Segment.{Segment}
use Rattle.draid_machine.specs.Names.{segment_eq, has_segment}
use Rattle.draid_machine.proofs.Small.{both_true, is_equal, key_refl, key_true, name_refl, name_true, true_both}

-- one segment
pub segment_refl : (s : Segment) → segment_eq s s ≡ true
segment_refl s = true_both _ _ (true_both _ _ (true_both _ _ (true_both _ _ (key_refl s.key) (same s.column)) (name_refl s.arm)) (same s.leaf)) (same s.row)
  where
    same : (x : ℕ) → (x == x) ≡ true
    same x = grind (arith, nat_tests)

pub segment_true : (s t : Segment) → segment_eq s t ≡ true → s ≡ t
segment_true s t e =
    let a = both_true _ _ e in
    let b = both_true _ _ a.0 in
    let c = both_true _ _ b.0 in
    let d = both_true _ _ c.0 in
    let key = key_true s.key t.key d.0 in
    let column = is_equal s.column t.column d.1 in
    let arm = name_true s.arm t.arm c.1 in
    let leaf = is_equal s.leaf t.leaf b.1 in
    let row = is_equal s.row t.row a.1 in
    λ i. record { key = key i; column = column i; arm = arm i; leaf = leaf i; row = row i }

-- lists
pub segments_append : (xs ys : List Segment) (s : Segment) → has_segment (xs ++ ys) s ≡ (has_segment xs s || has_segment ys s)
segments_append [] ys s = refl
segments_append (x ∷ xs) ys s = ap (λ b. segment_eq x s || b) (segments_append xs ys s) ∙ assoc (segment_eq x s) (has_segment xs s) (has_segment ys s)
  where
    assoc : (a b c : Bool) → (a || (b || c)) ≡ ((a || b) || c)
    assoc true b c = refl
    assoc false b c = refl

pub or_false : (b : Bool) → (b || false) ≡ b
or_false true = refl
or_false false = refl

pub segments_more : (xs : List Segment) (at : ℕ) (d s : Segment) → at < length xs → has_segment (take (at + 1) xs) s ≡ (has_segment (take at xs) s || segment_eq (get_or xs at d) s)
segments_more xs at d s less =
    ap (λ ys. has_segment ys s) (take_more xs at d less) ∙ segments_append (take at xs) (get_or xs at d ∷ []) s
    ∙ ap (λ b. has_segment (take at xs) s || b) (or_false (segment_eq (get_or xs at d) s))

pub or_more : (a b c : Bool) → ((a || b) || c) ≡ (a || (b || c))
or_more true b c = refl
or_more false b c = refl

pub and_more : (a b c : Bool) → ((a && not b) && not c) ≡ (a && not (b || c))
and_more true true c = refl
and_more true false c = refl
and_more false b c = refl

pub or_turned : (a b : Bool) → (a || b) ≡ (b || a)
or_turned true true = refl
or_turned true false = refl
or_turned false true = refl
or_turned false false = refl

abbrev pub no_segment : Segment
no_segment = record { key = record { object = 0; seq = 0 }; column = 0; arm = Leaf 0; leaf = 0; row = 0 }

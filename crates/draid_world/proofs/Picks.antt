-- Some of a list.
use Rattle.std.proofs.Common.{◌≡◌, ◌+◌, ◌<◌, ◌≤◌, ◌&&◌, ◌||◌, ◌++◌, ℕ, Bool, true, false, List, [], ◌∷◌, take, length, get_or, refl, sym, ◌∙◌, ap, subst}
use Rattle.std.proofs.lemmas.List.{take_all}
use Rattle.draid_machine.specs.declared.names.Segment.{Segment}
use Rattle.draid_machine.specs.Names.{has_segment, segment_eq}
use Rattle.draid_world.proofs.SegmentLists.{or_false, segment_true, segments_append, segments_more}

-- the segments of the first so many of a list that pass a test
abbrev pub ArePicked : (Segment → Bool) → List Segment → ℕ → List Segment → Type 0
ArePicked test all at out = (s : Segment) → has_segment out s ≡ (has_segment (take at all) s && test s)

pub picked_yes : (test : Segment → Bool) (all out new : List Segment) (at : ℕ) (d t : Segment) → at < length all → t ≡ get_or all at d → ArePicked test all at out → new ≡ out ++ t ∷ [] → test t ≡ true
    → ArePicked test all (at + 1) new
picked_yes test all out new at d t less is picked push passes s =
    ap (λ ys. has_segment ys s) push ∙ segments_append out (t ∷ []) s ∙ ap (λ b. has_segment out s || b) (or_false (segment_eq t s)) ∙ ap (λ b. b || segment_eq t s) (picked s)
    ∙ by (has_segment (take at all) s) (segment_eq t s) refl ∙ ap (λ b. b && test s) (ap (λ x. has_segment (take at all) s || segment_eq x s) is ∙ sym (segments_more all at d s less))
  where
    by : (a e : Bool) → segment_eq t s ≡ e → ((a && test s) || e) ≡ ((a || e) && test s)
    by true true same = let here : test s ≡ true = subst (λ x. test x ≡ true) (segment_true t s same) passes in ap (λ b. b || true) here ∙ sym here
    by false true same = let here : test s ≡ true = subst (λ x. test x ≡ true) (segment_true t s same) passes in sym here
    by true false same = or_false (test s)
    by false false same = refl

pub picked_no : (test : Segment → Bool) (all out : List Segment) (at : ℕ) (d t : Segment) → at < length all → t ≡ get_or all at d → ArePicked test all at out → test t ≡ false → ArePicked test all (at + 1) out
picked_no test all out at d t less is picked fails s =
    picked s ∙ by (has_segment (take at all) s) (segment_eq t s) refl ∙ ap (λ b. b && test s) (ap (λ x. has_segment (take at all) s || segment_eq x s) is ∙ sym (segments_more all at d s less))
  where
    by : (a e : Bool) → segment_eq t s ≡ e → (a && test s) ≡ ((a || e) && test s)
    by true e same = refl
    by false true same = sym (subst (λ x. test x ≡ false) (segment_true t s same) fails)
    by false false same = refl

pub picked_all : (test : Segment → Bool) (all out : List Segment) (at : ℕ) → length all ≤ at → ArePicked test all at out → (s : Segment) → has_segment out s ≡ (has_segment all s && test s)
picked_all test all out at past picked s = picked s ∙ ap (λ ys. has_segment ys s && test s) (take_all at all past)

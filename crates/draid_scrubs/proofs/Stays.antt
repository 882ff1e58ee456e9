-- Segments of a set for which a test holds.
use Rattle.std.proofs.Common.{◌≡◌, ◌&&◌, ◌||◌, ◌++◌, Bool, true, false, List, [], ◌∷◌, refl, sym, ◌∙◌, ap, subst}
use Rattle.draid_machine.specs.declared.names.Segment.{Segment}
use Rattle.draid_machine.specs.Names.{has_segment, segment_eq}
use Rattle.draid_world.proofs.SegmentLists.{segment_true, segments_append}

pub stay_skip : (test : Segment → Bool) (out left rest : List Segment) (x s : Segment) → left ≡ x ∷ rest → test x ≡ false
    → (has_segment out s || (has_segment rest s && test s)) ≡ (has_segment out s || (has_segment left s && test s))
stay_skip test out left rest x s is fails = ap (λ b. has_segment out s || b) (by (segment_eq x s) refl ∙ ap (λ ys. has_segment ys s && test s) (sym is))
  where
    none : (b t : Bool) → t ≡ false → (b && t) ≡ t
    none true t e = refl
    none false t e = sym e

    by : (e : Bool) → segment_eq x s ≡ e → (has_segment rest s && test s) ≡ ((e || has_segment rest s) && test s)
    by true same = none (has_segment rest s) (test s) (subst (λ y. test y ≡ false) (segment_true x s same) fails)
    by false same = refl

pub stay_more : (test : Segment → Bool) (out new left rest : List Segment) (x s : Segment) → left ≡ x ∷ rest → new ≡ out ++ x ∷ [] → test x ≡ true
    → (has_segment new s || (has_segment rest s && test s)) ≡ (has_segment out s || (has_segment left s && test s))
stay_more test out new left rest x s is push passes =
    ap (λ ys. has_segment ys s || (has_segment rest s && test s)) push ∙ ap (λ b. b || (has_segment rest s && test s)) (segments_append out (x ∷ []) s)
    ∙ by (segment_eq x s) refl ∙ ap (λ ys. has_segment out s || (has_segment ys s && test s)) (sym is)
  where
    bits : (o r t : Bool) → t ≡ true → ((o || (true || false)) || (r && t)) ≡ (o || ((true || r) && t))
    bits true r t e = refl
    bits false r t e = sym e

    over : (o b : Bool) → ((o || (false || false)) || b) ≡ (o || b)
    over true b = refl
    over false b = refl

    by : (e : Bool) → segment_eq x s ≡ e → ((has_segment out s || (e || false)) || (has_segment rest s && test s)) ≡ (has_segment out s || ((e || has_segment rest s) && test s))
    by true same = bits (has_segment out s) (has_segment rest s) (test s) (subst (λ y. test y ≡ true) (segment_true x s same) passes)
    by false same = over (has_segment out s) (has_segment rest s && test s)

pub stay_all : (o : Bool) (left : List Segment) (s : Segment) (t whole : Bool) → left ≡ [] → (o || (has_segment left s && t)) ≡ whole → o ≡ whole
stay_all o left s t whole is e = sym (ap (λ ys. o || (has_segment ys s && t)) is ∙ or_false o) ∙ e
  where
    or_false : (b : Bool) → (b || false) ≡ b
    or_false true = refl
    or_false false = refl

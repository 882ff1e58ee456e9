-- Segments that join a set where they pass a test.
use Rattle.std.proofs.Common.{◌≡◌, ◌&&◌, ◌||◌, Bool, true, false, List, ◌∷◌, refl, sym, ◌∙◌, ap}
use Rattle.std.proofs.lemmas.Bool.{true≢false}
use Rattle.draid_machine.specs.declared.names.Segment.{Segment}
use Rattle.draid_machine.specs.Names.{segment_eq, has_segment}
use Rattle.draid_world.proofs.Keeping.{same_one}

pub not_joined : (test : Segment → Bool) (t s : Segment) (b : Bool) → test t ≡ false → b ≡ ((segment_eq t s && test s) || b)
not_joined test t s b no_test = bits (segment_eq t s) (test s) b (λ e. sym (ap test (same_one t s e)) ∙ no_test)
  where
    bits : (e c b : Bool) → (e ≡ true → c ≡ false) → b ≡ ((e && c) || b)
    bits true true b f = absurd (true≢false (f refl))
    bits true false b f = refl
    bits false c b f = refl

pub joined : (test : Segment → Bool) (t s : Segment) (b : Bool) → test t ≡ true → (segment_eq t s || b) ≡ ((segment_eq t s && test s) || b)
joined test t s b passes = bits (segment_eq t s) (test s) b (λ e. sym (ap test (same_one t s e)) ∙ passes)
  where
    bits : (e c b : Bool) → (e ≡ true → c ≡ true) → (e || b) ≡ ((e && c) || b)
    bits true true b f = refl
    bits true false b f = absurd (true≢false (sym (f refl)))
    bits false c b f = refl

pub one_more : (e c o d : Bool) → (((e && c) || o) || (d && c)) ≡ (o || ((e || d) && c))
one_more true true true d = refl
one_more true true false d = refl
one_more true false true d = refl
one_more true false false true = refl
one_more true false false false = refl
one_more false c true d = refl
one_more false c false d = refl

-- the next of a set
pub next_joined : (left rest : List Segment) (t s : Segment) (c o new : Bool) → left ≡ t ∷ rest → new ≡ ((segment_eq t s && c) || o)
    → (new || (has_segment rest s && c)) ≡ (o || (has_segment left s && c))
next_joined left rest t s c o new at is =
    ap (λ b. b || (has_segment rest s && c)) is ∙ one_more (segment_eq t s) c o (has_segment rest s) ∙ ap (λ ts. o || (has_segment ts s && c)) (sym at)

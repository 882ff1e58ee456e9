-- Segments that have lost their place.
use Rattle.std.proofs.Common.{◌≡◌, ◌&&◌, ◌||◌, ℕ, Bool, true, false, List, ◌∷◌, Option, cond, if◌then◌else◌, refl, sym, ◌∙◌, ap}
use Rattle.std.specs.Map.{lookup}
use Rattle.std.specs.BTreeMap.{is_at}
use Rattle.draid_machine.specs.declared.names.Segment.{Segment}
use Rattle.draid_machine.specs.Names.{segment_eq, has_segment}
use Rattle.draid_world.specs.World.{kept_in}
use Rattle.draid_world.proofs.Keeping.{kept_lookup, same_one}
use Rattle.draid_world.proofs.Segments.{at_segment, segment_cmp, turn_segment}

pub kept_updated : (old new : List (Segment × ℕ)) (k : Segment) (w : Option ℕ)
    → ((q : Segment) → lookup (is_at (segment_cmp q)) new ≡ cond (is_at (segment_cmp k) q) w (lookup (is_at (segment_cmp q)) old))
    → (s : Segment) → kept_in new s ≡ (if segment_eq k s then w else kept_in old s)
kept_updated old new k w is s = sym (kept_lookup new s) ∙ is s ∙ (λ i. cond ((at_segment k s ∙ turn_segment s k) i) w (kept_lookup old s i))

pub not_lost : (lost : Segment → Bool) (t s : Segment) (w o : Option ℕ) → lost t ≡ false → o ≡ (if segment_eq t s && lost s then w else o)
not_lost lost t s w o stays = ap (λ b. if b then w else o) (sym (bits (segment_eq t s) (lost s) (λ e. sym (ap lost (same_one t s e)) ∙ stays)))
  where
    bits : (e c : Bool) → (e ≡ true → c ≡ false) → (e && c) ≡ false
    bits true c f = f refl
    bits false c f = refl

pub now_lost : (lost : Segment → Bool) (t s : Segment) (w o : Option ℕ) → lost t ≡ true → (if segment_eq t s then w else o) ≡ (if segment_eq t s && lost s then w else o)
now_lost lost t s w o is = ap (λ b. if b then w else o) (sym (bits (segment_eq t s) (lost s) (λ e. sym (ap lost (same_one t s e)) ∙ is)))
  where
    bits : (e c : Bool) → (e ≡ true → c ≡ true) → (e && c) ≡ e
    bits true c f = f refl
    bits false c f = refl

-- the next of a set
pub next_lost : (left rest : List Segment) (t s : Segment) (c : Bool) (w o new : Option ℕ) → left ≡ t ∷ rest → new ≡ (if segment_eq t s && c then w else o)
    → (if has_segment rest s && c then w else new) ≡ (if has_segment left s && c then w else o)
next_lost left rest t s c w o new at is =
    ap (λ p. if has_segment rest s && c then w else p) is ∙ bits (segment_eq t s) (has_segment rest s) c ∙ ap (λ ts. if has_segment ts s && c then w else o) (sym at)
  where
    bits : (e r c : Bool) → (if r && c then w else (if e && c then w else o)) ≡ (if (e || r) && c then w else o)
    bits true true true = refl
    bits true true false = refl
    bits true false true = refl
    bits true false false = refl
    bits false true true = refl
    bits false true false = refl
    bits false false c = refl

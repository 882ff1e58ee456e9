-- Laws of the numbers in spans.
use Rattle.std.proofs.Common.{◌≡◌, ℕ, ◌+◌, ◌-◌, ◌≤◌, ◌&&◌, ◌||◌, not, Bool, true, false, List, [], ◌∷◌, ◌++◌, sym, refl, ap, ◌∙◌, arith, nat_lt, nat_le, min, max}
use Rattle.std.proofs.lemmas.Bool.Decides.{nat_tests}
use mathlib.Core.Bool.{true≢false}
use Rattle.draid_turn.specs.declared.span.Span.{Span}
use Rattle.draid_turn.specs.Lists.{one_if, one_within}
use Rattle.draid_turn.specs.Numbers.{HoldsOther, HoldsSome, add_if, all_numbers, cut, holds, in_span, number_limit, without}

pub all_within : (n : ℕ) → one_if (holds n all_numbers) ≡ one_within 0 number_limit n
all_within n = grind (arith, nat_tests)

or_assoc : (a b c : Bool) → ((a || b) || c) ≡ (a || (b || c))
or_assoc true b c = refl
or_assoc false b c = refl

pub holds_append : (n : ℕ) (a b : List Span) → holds n (a ++ b) ≡ (holds n a || holds n b)
holds_append n [] b = refl
holds_append n (s ∷ a) b = ap (λ z. in_span n s || z) (holds_append n a b) ∙ sym (or_assoc (in_span n s) (holds n a) (holds n b))

holds_add_if : (n : ℕ) (b : Bool) (s : Span) (ss : List Span) → holds n (add_if b s ss) ≡ ((b && in_span n s) || holds n ss)
holds_add_if n true s ss = refl
holds_add_if n false s ss = refl

-- what is left of the span from c to d below a and above b
pieces : (n a b c d : ℕ) (rest : Bool)
    → ((nat_lt c a && (nat_le c n && nat_le n (min d (a - 1)))) || ((nat_lt b d && (nat_le (max c (b + 1)) n && nat_le n d)) || (rest && not (nat_le a n && nat_le n b))))
    ≡ (((nat_le c n && nat_le n d) || rest) && not (nat_le a n && nat_le n b))
pieces n a b c d rest = grind (arith, nat_tests)

holds_cut : (n : ℕ) (out : Span) (spans : List Span) → holds n (cut out spans) ≡ (holds n spans && not (in_span n out))
holds_cut n out [] = refl
holds_cut n out (span ∷ spans) =
    let below : Span = record { first = span.first; last = min span.last (out.first - 1) } in
    let above : Span = record { first = max span.first (out.last + 1); last = span.last } in
    holds_add_if n (nat_lt span.first out.first) below (add_if (nat_lt out.last span.last) above (cut out spans))
    ∙ (ap (λ z. (nat_lt span.first out.first && in_span n below) || z) (holds_add_if n (nat_lt out.last span.last) above (cut out spans)
    ∙ ap (λ z. (nat_lt out.last span.last && in_span n above) || z) (holds_cut n out spans))
    ∙ pieces n out.first out.last span.first span.last (holds n spans))

and_not_or : (a b c : Bool) → ((a && not b) && not c) ≡ (a && not (c || b))
and_not_or true true true = refl
and_not_or true true false = refl
and_not_or true false true = refl
and_not_or true false false = refl
and_not_or false b c = refl

and_true : (a : Bool) → a ≡ (a && true)
and_true true = refl
and_true false = refl

pub holds_without : (n : ℕ) (spans given : List Span) → holds n (without spans given) ≡ (holds n spans && not (holds n given))
holds_without n spans [] = and_true (holds n spans)
holds_without n spans (out ∷ given) = holds_cut n out (without spans given)
    ∙ (ap (λ z. z && not (in_span n out)) (holds_without n spans given) ∙ and_not_or (holds n spans) (holds n given) (in_span n out))

-- where another number is held, something is left
pub some_left : (spans given : List Span) → HoldsOther spans given → HoldsSome (without spans given)
some_left spans given other = record {
  number = other.number;
  held = holds_without other.number spans given ∙ ((λ k. other.held k && not (other.kept k)));
}

pub some_append : (a b : List Span) → HoldsSome a → HoldsSome (a ++ b)
some_append a b some = record { number = some.number; held = holds_append some.number a b ∙ ap (λ z. z || holds some.number b) some.held }

-- ---- as numbers

pub one_if_true : (b : Bool) → b ≡ true → one_if b ≡ 1
one_if_true b e = ap one_if e

pub true_if_one : (b : Bool) → 1 ≤ one_if b → b ≡ true
true_if_one true h = refl
true_if_one false h = absurd (omega (arith, h))

pub not_true : (b : Bool) → (b ≡ true → ⊥) → b ≡ false
not_true true f = absurd (f refl)
not_true false f = refl

pub ones_split : (a b : Bool) → (b ≡ true → a ≡ true) → one_if (a && not b) + one_if b ≡ one_if a
ones_split true true inside = omega arith
ones_split true false inside = omega arith
ones_split false true inside = absurd (true≢false (sym (inside refl)))
ones_split false false inside = omega arith

pub ones_join : (a b : Bool) → one_if (a || b) ≤ one_if a + one_if b
ones_join true b = omega arith
ones_join false b = omega arith

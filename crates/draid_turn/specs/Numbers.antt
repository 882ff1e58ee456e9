-- The numbers that callers hold, as spans, and what holds concern.
use Rattle.std.specs.Prelude.{◌≡◌, ◌+◌, ◌-◌, ◌^◌, ◌<◌, ◌&&◌, ◌||◌, ℕ, Bool, true, false, List, [], ◌∷◌, nat_lt, nat_le, min, max, if◌then◌else◌, Option, Some}
use Rattle.draid_turn.specs.declared.span.Span.{Span}

-- all numbers lie below this one
abbrev pub number_limit : ℕ
number_limit = 2 ^ 32 + 19

abbrev pub all_numbers : List Span
all_numbers = record { first = 0; last = 2 ^ 32 + 18 } ∷ []

abbrev pub in_span : ℕ → Span → Bool
in_span n span = nat_le span.first n && nat_le n span.last

-- whether a number is in one of the spans
abbrev pub holds : ℕ → List Span → Bool
holds n [] = false
holds n (span ∷ spans) = in_span n span || holds n spans

abbrev pub add_if : Bool → Span → List Span → List Span
add_if b span spans = if b then span ∷ spans else spans

-- the numbers of the spans that are not in the span that is cut out
abbrev pub cut : Span → List Span → List Span
cut out [] = []
cut out (span ∷ spans) = add_if (nat_lt span.first out.first) (record { first = span.first; last = min span.last (out.first - 1) })
    (add_if (nat_lt out.last span.last) (record { first = max span.first (out.last + 1); last = span.last }) (cut out spans))

-- the numbers of the spans that are in none of those that were given up
abbrev pub without : List Span → List Span → List Span
without spans [] = spans
without spans (out ∷ given) = cut out (without spans given)

abbrev pub HoldsNone : List Span → Type 0
HoldsNone spans = (n : ℕ) → holds n spans ≡ false

-- there is at least one number
pub record HoldsSome (spans : List Span) : Type 0 where
  pub number : ℕ
  pub held : holds number spans ≡ true

-- there is at least one number that isn't given up
pub record HoldsOther (spans given : List Span) : Type 0 where
  pub number : ℕ
  pub held : holds number spans ≡ true
  pub kept : holds number given ≡ false

abbrev pub HoldsAll : List Span → Type 0
HoldsAll spans = (n : ℕ) → n < number_limit → holds n spans ≡ true

module _ {E : Type 0} (number : E → Option ℕ) where
  -- a hold concerns none of the numbers
  abbrev pub IsForeign : List Span → E → Type 0
  IsForeign spans past = (n : ℕ) → number past ≡ Some n → holds n spans ≡ false

  -- a hold concerns one of the numbers, or none at all
  abbrev pub IsOwn : List Span → E → Type 0
  IsOwn spans past = (n : ℕ) → number past ≡ Some n → holds n spans ≡ true

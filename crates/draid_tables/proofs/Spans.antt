-- Whether a number is in one of the spans is a search.
use Rattle.std.proofs.Common.{◌≡◌, ◌||◌, ℕ, List, [], ◌∷◌, ap, refl}
use Rattle.std.specs.List.{list_any}
use Rattle.draid_turn.specs.Numbers.{holds, in_span}
use Rattle.draid_turn.specs.declared.span.Span.{Span}

pub any_holds : (number : ℕ) (numbers : List Span) → list_any (in_span number) numbers ≡ holds number numbers
any_holds number [] = refl
any_holds number (span ∷ spans) = ap (λ b. in_span number span || b) (any_holds number spans)

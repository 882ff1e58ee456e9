-- The numbers that lanes hold in tests.
use Rattle.std.specs.Prelude.{◌+◌, ◌*◌, ◌∷◌, ℕ, List, [], nat_eq, if◌then◌else◌}
use Rattle.draid_turn.specs.declared.span.Span.{Span}
use Rattle.draid_pool.specs.Drifts.{passes_number}

abbrev pub share_from : ℕ → Span
share_from first = record { first = first; last = first + 999 }

abbrev pub passes_alone : Span
passes_alone = record { first = passes_number; last = passes_number }

-- a lane's thousand objects, and the passes where it is the first
abbrev pub list_at : ℕ → List Span
list_at lane = if nat_eq lane 0 then share_from (lane * 1000) ∷ passes_alone ∷ [] else share_from (lane * 1000) ∷ []
